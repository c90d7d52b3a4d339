-- `numbers::minus` meets its contract: the library wraps the difference just so.
use Rattle.std.proofs.Common.{rules}
use Rattle.numbers.specs.Words.{minus}
use Rattle.numbers.proofs.minus.Goals as goal

pub returns : goal.returns
unfolding minus
returns c = search rules
