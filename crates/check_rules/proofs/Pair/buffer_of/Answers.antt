-- `Pair::buffer_of` meets its contract.
use borrow.Author.Rules.{rules}
use Rattle.kernel.specs.Named.{rule}
use Rattle.check_rules.specs.View.{buffer_of}
use Rattle.check_rules.proofs.Pair.buffer_of.Goals as goal

pub overflow_sub-result : goal.overflow_sub-result
unfolding rule
overflow_sub-result c = search rules

pub returns-in-Ok-Use : goal.returns-in-Ok-Use
unfolding rule buffer_of
returns-in-Ok-Use c = search rules

pub returns-in_default : goal.returns-in_default
unfolding rule buffer_of
returns-in_default c = search rules

pub returns-in_default-2 : goal.returns-in_default-2
unfolding rule buffer_of
returns-in_default-2 c = search rules
