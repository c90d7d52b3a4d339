-- `Pair::codes` meets its contract.
use borrow.Author.Rules.{rules}
use Rattle.kernel.specs.Check as Check
use Rattle.check_rules.proofs.Pair.codes.Goals as goal

pub returns-then-self-from : goal.returns-then-self-from
unfolding Check.codes
returns-then-self-from c = search rules

pub returns-else-self-from : goal.returns-else-self-from
unfolding Check.codes
returns-else-self-from c = search rules
