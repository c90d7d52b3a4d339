-- `Open::loops` meets its contract.
use mathlib.Core.Path.{refl}
use mathlib.Core.Logic.{inl, inr}
use Rattle.kernel.specs.Reading.{open_loops}
use Rattle.read_blocks.specs.Blocks.{block}
use Rattle.read_blocks.proofs.open.Open.loops.Goals as goal

pub returns-in-For : goal.returns-in-For
unfolding block open_loops
returns-in-For c = rw c.in-For.is refl

pub returns-in-If : goal.returns-in-If
unfolding block open_loops
returns-in-If c = elim c.in-If.is [
  | inl e ↦ rw e refl
  | inr e ↦ rw e refl
]
