-- `Pair::same_fits` meets its contract.
use borrow.Author.Rules.{rules}
use Rattle.kernel.specs.Named.{code}
use Rattle.check_rules.proofs.Pair.same_fits.Goals as goal

pub returns-then-between : goal.returns-then-between
unfolding code
returns-then-between c = search rules

pub returns-else-between : goal.returns-else-between
unfolding code
returns-else-between c = search rules
