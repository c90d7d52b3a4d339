-- `check_rules::steps` meets its contract.
use borrow.Author.Rules.{rules}
use Rattle.kernel.specs.Named.{rule}
use Rattle.check_rules.specs.View.{steps}
use Rattle.check_rules.proofs.steps.Goals as goal

pub returns : goal.returns
unfolding rule steps
returns c = search rules
