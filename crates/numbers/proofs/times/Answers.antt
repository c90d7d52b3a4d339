-- `numbers::times` meets its contract: the library wraps the product just so.
use Rattle.std.proofs.Common.{rules}
use Rattle.numbers.specs.Words.{times}
use Rattle.numbers.proofs.times.Goals as goal

pub returns : goal.returns
unfolding times
returns c = search rules
