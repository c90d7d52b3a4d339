-- `read_records::holds_nothing` meets its contract.
use mathlib.Core.Path.{◌≡◌, ap, ◌∙◌}
use mathlib.Core.List.{◌∷◌}
use lib.ListN.{length}
use borrow.Author.Tests.{eq-eqb}
use Rattle.std.proofs.Common.{rules}
use Rattle.kernel.specs.Reading as Reading
use Rattle.read_records.proofs.Tables.{four}
use Rattle.read_records.proofs.holds_nothing.Goals as goal

pub returns-then-d : goal.returns-then-d
returns-then-d c =
    let d = c.args.d in
    let long : length d.x ≡ 4 = search rules in
    rw (eq-eqb _ _ c.if-d.true) (c.zeros.ensures ∙ ap (λ x. Reading.zeros (d.k ∷ x)) (four d.x long))
