-- `check_ledger::Ledger::moved` meets its contract.
use mathlib.Core.Path.{refl, ap, ◌∙◌}
use native.Mathlib.Omega.{arith}
use Rattle.kernel.specs.Ledger as L
use Rattle.check_ledger.specs.View.{ledger}
use Rattle.check_ledger.proofs.Bounds.{bounded_same}
use Rattle.check_ledger.proofs.Steps.{held_at, holds_at}
use Rattle.check_ledger.proofs.Ledger.moved.Goals as goal

pub returns : goal.returns
unfolding L.move_step
returns c =
    let s = c.args in
    let l = s.self in (
      λ a d h. held_at a d l s.to _ (omega arith) ∙ ap (λ x. L.hold s.to x (ledger a d l)) (holds_at a d l s.from (omega arith) h),
      λ n h. bounded_same h refl,
    )
