-- `numbers::between` meets its contract.
use Rattle.std.proofs.Common.{arith}
use Rattle.std.proofs.lemmas.Bool.Decides.{nat_tests}
use Rattle.numbers.specs.Words.{between}
use Rattle.numbers.proofs.between.Goals as goal

pub returns-then-low-w : goal.returns-then-low-w
unfolding between
returns-then-low-w c = grind (arith, nat_tests)

pub returns-else-low-w : goal.returns-else-low-w
unfolding between
returns-else-low-w c = grind (arith, nat_tests)
