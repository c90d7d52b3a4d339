-- `Pair::same_pqk` meets its contract.
use borrow.Author.Rules.{rules}
use Rattle.kernel.specs.Check as Check
use Rattle.check_rules.proofs.Pair.same_pqk.Goals as goal

pub returns-then-same_pq : goal.returns-then-same_pq
unfolding Check.same_pqk
returns-then-same_pq c = search rules

pub returns-else-same_pq : goal.returns-else-same_pq
unfolding Check.same_pqk
returns-else-same_pq c = search rules
