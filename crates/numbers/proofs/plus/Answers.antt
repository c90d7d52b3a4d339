-- `numbers::plus` meets its contract: the library wraps the sum just so.
use Rattle.std.proofs.Common.{rules}
use Rattle.numbers.specs.Words.{plus}
use Rattle.numbers.proofs.plus.Goals as goal

pub returns : goal.returns
unfolding plus
returns c = search rules
