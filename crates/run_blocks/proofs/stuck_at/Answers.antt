-- `run_blocks::stuck_at` meets its contract.
use Rattle.std.proofs.Common.{arith}
use Rattle.std.proofs.lemmas.Grind.{common_steps}
use Rattle.run_blocks.specs.View.{placed}
use Rattle.run_blocks.proofs.stuck_at.Goals as goal

pub returns : goal.returns
unfolding placed
returns g c = grind (arith, common_steps)
