-- `planner::done_word` meets its contract: the parts of each answer of laying out and putting back.
use mathlib.Core.List.{[], ◌∷◌}
use Rattle.run_calls.specs.View.{done}
use Rattle.planner.proofs.Parts.{tells_before}
use Rattle.planner.proofs.Answered.{move_answer_numbers, move_tells}
use Rattle.planner.proofs.done_word.Goals as goal

pub returns-in-Ok : goal.returns-in-Ok
unfolding done move_answer_numbers
returns-in-Ok c =
    λ m e. move_tells _ _ _ c.in-Ok.is m e (tells_before _ (0 ∷ []) (tells_before _ (0 ∷ 0 ∷ []) (tells_before _ (0 ∷ 0 ∷ 0 ∷ []) c.packed.ensures)))

pub returns-in-Err : goal.returns-in-Err
unfolding done move_answer_numbers
returns-in-Err c = λ m e. move_tells _ _ _ c.in-Err.is m e c.not_run_word.ensures
