-- `Pair::same_pq` meets its contract.
use borrow.Author.Rules.{rules}
use Rattle.kernel.specs.Check as Check
use Rattle.check_rules.proofs.Pair.same_pq.Goals as goal

pub returns-then-self : goal.returns-then-self
unfolding Check.same_pq Check.same_p
returns-then-self c = search rules

pub returns-else-self : goal.returns-else-self
unfolding Check.same_pq Check.same_p
returns-else-self c = search rules
