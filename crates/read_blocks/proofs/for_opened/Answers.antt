-- `read_blocks::for_opened` meets its contract.
use native.Mathlib.Omega.{arith}
use Rattle.kernel.specs.Reading.{all_passes}
use Rattle.read_blocks.specs.Blocks.{block}
use Rattle.read_blocks.proofs.for_opened.Goals as goal

pub opened-requires : goal.opened-requires
unfolding block all_passes
opened-requires c = (omega (arith, c.requires.0), omega (arith, c.requires.1))

pub returns : goal.returns
unfolding block
returns c = c.opened.ensures
