-- `check_rules::arrays_taken` meets its contract.
use borrow.Author.Rules.{rules}
use Rattle.kernel.specs.Named.{rule}
use Rattle.check_rules.specs.View.{arrays_taken}
use Rattle.check_rules.proofs.arrays_taken.Goals as goal

pub returns-in-Ok-Fill : goal.returns-in-Ok-Fill
unfolding rule arrays_taken
returns-in-Ok-Fill c = search rules

pub returns-in_default : goal.returns-in_default
unfolding rule arrays_taken
returns-in_default c = search rules

pub returns-in_default-2 : goal.returns-in_default-2
unfolding rule arrays_taken
returns-in_default-2 c = search rules
