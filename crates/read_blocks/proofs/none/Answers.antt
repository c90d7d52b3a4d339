-- `read_blocks::none` meets its contract.
use mathlib.Core.Path.{refl}
use native.Mathlib.Omega.{arith}
use Rattle.kernel.specs.Reading.{open_loops, all_passes}
use Rattle.read_blocks.specs.Blocks.{first}
use Rattle.read_blocks.specs.View.{opens}
use Rattle.read_blocks.proofs.none.Goals as goal

pub invariant_of-result : goal.invariant_of-result
unfolding first open_loops all_passes
invariant_of-result c = record { shallow = omega arith; loops_are = refl; few_loops = omega arith; product_is = refl; some_passes = omega arith; few_passes = omega arith }

pub returns : goal.returns
unfolding opens first
returns c = refl
