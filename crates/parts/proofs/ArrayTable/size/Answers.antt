-- `ArrayTable::size` meets its contract: a measure is one of two.
use mathlib.Core.Path.{sym, ap, ◌∙◌}
use Rattle.parts.specs.Arrays.{array_at, measure}
use Rattle.parts.proofs.ArrayTable.size.Goals as goal

pub returns-in-Cells : goal.returns-in-Cells
unfolding measure
returns-in-Cells c =
    let a = c.args in
    c.length.ensures ∙ sym (ap (λ m. measure m (array_at a.self.file.now a.j)) c.in-Cells.is)

pub returns-in-Items : goal.returns-in-Items
unfolding measure
returns-in-Items c =
    let a = c.args in
    c.count_of.ensures ∙ sym (ap (λ m. measure m (array_at a.self.file.now a.j)) c.in-Items.is)
