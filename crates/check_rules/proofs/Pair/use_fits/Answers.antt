-- `Pair::use_fits` meets its contract.
use Rattle.kernel.specs.Check as Check
use Rattle.kernel.specs.Named.{code}
use borrow.Author.Rules.{rules}
use Rattle.check_rules.proofs.Pair.use_fits.Goals as goal

pub returns-then-self : goal.returns-then-self
unfolding Check.same_p code
returns-then-self c = search rules

pub returns-else-self : goal.returns-else-self
unfolding Check.same_p code
returns-else-self c = search rules
