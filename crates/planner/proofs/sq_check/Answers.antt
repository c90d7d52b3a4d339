-- `planner::sq_check` meets its contract: the check, and its answer as a word.
use mathlib.Core.Path.{subst}
use Rattle.kernel.specs.Answers.{check_numbers}
use Rattle.planner.specs.Words.{Tells}
use Rattle.planner.proofs.sq_check.Goals as goal

pub returns : goal.returns
returns c =
    subst (λ x. Tells c.checked_word.result (check_numbers x)) c.check.ensures c.checked_word.ensures
