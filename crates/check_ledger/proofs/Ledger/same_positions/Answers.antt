-- `check_ledger::Ledger::same_positions` meets its contract.
use native.Mathlib.Omega.{arith}
use lib.ListN.{take}
use lib.Seq.{length-take-le}
use borrow.Author.Rules.{rules}
use Rattle.forms.specs.Form as F
use Rattle.forms.specs.Code.{form, loops}
use Rattle.kernel.specs.Ledger as L
use Rattle.check_ledger.specs.View.{ledger}
use Rattle.check_ledger.proofs.Loops.{alike_by_all}
use Rattle.check_ledger.proofs.Ledger.same_positions.Goals as goal

pub returns : goal.returns
unfolding L.same_positions ledger
returns c =
    let a = c.args.a in
    let l = c.args.self.now.positions in
    let m = c.args.other.now.positions in
    λ b. alike_by_all c.zip.result c.all.new.self (F.same (loops c.args.around)) form form (take a l) (take a m) (omega (arith, length-take-le a l, length-take-le a m)) (search rules) (search rules) c.all.ensures.ran
    (λ x b q k. search rules)
