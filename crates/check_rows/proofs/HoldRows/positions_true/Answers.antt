-- `check_rows::HoldRows::positions_true` meets its contract.
use Prim.Native.Nat.{◌^◌}
use mathlib.Core.Path.{◌∙◌}
use native.Mathlib.Omega.{arith}
use lib.ListN.{take}
use lib.Seq.{length-take-le}
use borrow.Author.Rules.{rules}
use Rattle.forms.specs.Form as F
use Rattle.forms.specs.Code.{form, loops, Within}
use Rattle.kernel.specs.Ledger as L
use Rattle.check_ledger.specs.View.{ledger, no_form}
use Rattle.check_ledger.proofs.Loops.{alike_by_all}
use Rattle.check_rows.specs.Changes.{with_change}
use Rattle.check_rows.proofs.Changes.{changed_alike, pairs_asked}
use Rattle.check_rows.proofs.HoldRows.positions_true.Goals as goal

pub all-requires-clause-callable : goal.all-requires-clause-callable
all-requires-clause-callable c =
    let s = c.args.self in
    pairs_asked c.zip.result (Within (2 ^ 20) (2 ^ 20)) no_form s.arrays s.ledger.now.positions (take s.arrays c.args.l.now.positions) (search rules) (search rules) s.stated.at_position
    (λ x q r. search rules)
    (λ x small. search rules)

pub returns : goal.returns
unfolding L.same_positions L.each ledger
returns c =
    let s = c.args.self in
    let same = F.same (loops c.args.around) in
    let change = with_change c.args.change in
    let l = c.args.l.now.positions in
    λ b. alike_by_all c.zip.result c.all.new.self (λ f g. same (change f) g) form form (take s.arrays s.ledger.now.positions) (take s.arrays l)
    (omega (arith, length-take-le s.arrays s.ledger.now.positions, length-take-le s.arrays l)) (search rules) (search rules) c.all.ensures.ran (λ x b q k. search rules)
    ∙ changed_alike same change _ _
