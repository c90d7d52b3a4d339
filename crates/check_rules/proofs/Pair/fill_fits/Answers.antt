-- `Pair::fill_fits` meets its contract.
use borrow.Author.Rules.{rules}
use Rattle.kernel.specs.Named.{code}
use Rattle.check_rules.proofs.Pair.fill_fits.Goals as goal

pub returns-then-self-from : goal.returns-then-self-from
unfolding code
returns-then-self-from c = search rules

pub returns-else-self-from : goal.returns-else-self-from
unfolding code
returns-else-self-from c = search rules
