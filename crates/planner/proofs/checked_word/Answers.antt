-- `planner::checked_word` meets its contract: the parts of each answer of the check.
use mathlib.Core.List.{[], ◌∷◌}
use Rattle.kernel.specs.Answers.{check_numbers}
use Rattle.check_file.specs.View.{answer}
use Rattle.planner.proofs.Parts.{tells_before}
use Rattle.planner.proofs.Answered.{check_tells}
use Rattle.planner.proofs.checked_word.Goals as goal

pub returns-in-Ok : goal.returns-in-Ok
unfolding answer check_numbers
returns-in-Ok c =
    check_tells _ _ _ c.in-Ok.is (tells_before _ (0 ∷ []) (tells_before _ (0 ∷ 0 ∷ []) (tells_before _ (0 ∷ 0 ∷ 0 ∷ []) c.packed.ensures)))

pub returns-in-Err : goal.returns-in-Err
returns-in-Err c = check_tells _ _ _ c.in-Err.is c.not_accepted_word.ensures
