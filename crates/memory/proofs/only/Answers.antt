-- `memory::only` meets its contract: its record is that of the array, whose side the test asks.
use mathlib.Core.Path.{◌≡◌, sym, ap, subst, ◌∙◌}
use borrow.Author.Tests.{eq-eqb, ne_eqb}
use Rattle.kernel.specs.File.{side_of, only, on}
use Rattle.parts.specs.Records.{rec}
use Rattle.parts.specs.Arrays.{array_at, measure}
use Rattle.memory.proofs.Rows.{only_here, only_other}
use Rattle.memory.proofs.only.Goals as goal

pub returns-then-a-side : goal.returns-then-a-side
unfolding on side_of
returns-then-a-side c =
    let a = c.args in
    let r = rec c.record_at-a.result in
    sym (only_other a.side (measure a.m) r (ne_eqb r.code a.side c.if-a-side.true)) ∙ ap (only a.side (measure a.m)) c.record_at-a.ensures

pub returns-in-Cells : goal.returns-in-Cells
unfolding on side_of measure
returns-in-Cells c =
    let a = c.args in
    let r = rec c.record_at-a.result in
    ap (λ m. measure m r) (sym c.in-Cells.is) ∙ sym (only_here a.side (measure a.m) r (eq-eqb r.code a.side c.if-a-side.false)) ∙ ap (only a.side (measure a.m)) c.record_at-a.ensures

pub returns-in-Items : goal.returns-in-Items
unfolding on side_of measure
returns-in-Items c =
    let a = c.args in
    let r = rec c.record_at-a.result in
    ap (λ m. measure m r) (sym c.in-Items.is) ∙ sym (only_here a.side (measure a.m) r (eq-eqb r.code a.side c.if-a-side.false)) ∙ ap (only a.side (measure a.m)) c.record_at-a.ensures
