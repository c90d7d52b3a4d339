-- `Pair::identical` meets its contract.
use Rattle.numbers.specs.Lists.{alike}
use Rattle.kernel.specs.File.{numbers}
use Rattle.kernel.specs.Check as Check
use Rattle.check_rules.proofs.Pair.identical.Goals as goal

pub returns : goal.returns
unfolding Check.identical alike numbers
returns c = c.eq.ensures
