-- `Pair::move_fits` meets its contract.
use borrow.Author.Rules.{rules}
use Rattle.kernel.specs.Named.{code}
use Rattle.check_rules.proofs.Pair.move_fits.Goals as goal

pub returns-then-registers-self : goal.returns-then-registers-self
unfolding code
returns-then-registers-self c = search rules

pub returns-else-registers-self : goal.returns-else-registers-self
unfolding code
returns-else-registers-self c = search rules
