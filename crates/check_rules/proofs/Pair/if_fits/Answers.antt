-- `Pair::if_fits` meets its contract.
use borrow.Author.Rules.{rules}
use Rattle.kernel.specs.Check as Check
use Rattle.kernel.specs.Named.{code}
use Rattle.check_rules.proofs.Pair.if_fits.Goals as goal

pub returns-then-codes : goal.returns-then-codes
unfolding Check.same_p code
returns-then-codes c = search rules

pub returns-else-codes : goal.returns-else-codes
unfolding code
returns-else-codes c = search rules
