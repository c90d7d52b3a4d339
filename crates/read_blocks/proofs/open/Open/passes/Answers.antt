-- `Open::passes` meets its contract.
use mathlib.Core.Path.{refl, sym}
use mathlib.Core.Logic.{inl, inr}
use native.Mathlib.Nat as NatL
use Rattle.kernel.specs.Reading.{all_passes}
use Rattle.read_blocks.specs.Blocks.{block}
use Rattle.read_blocks.proofs.open.Open.passes.Goals as goal

pub returns-in-For : goal.returns-in-For
unfolding block all_passes
returns-in-For c = rw c.in-For.is (sym (NatL.mul-one c.in-For.n))

pub returns-in-If : goal.returns-in-If
unfolding block all_passes
returns-in-If c = elim c.in-If.is [
  | inl e ↦ rw e refl
  | inr e ↦ rw e refl
]
