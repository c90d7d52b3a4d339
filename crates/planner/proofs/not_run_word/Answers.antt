-- `planner::not_run_word` meets its contract: reading's refusal, or 21.
use mathlib.Core.List.{[], ◌∷◌}
use Rattle.kernel.specs.Answers.{fault_numbers}
use Rattle.run_calls.specs.View.{refusal}
use Rattle.planner.proofs.Parts.{tells_before}
use Rattle.planner.proofs.not_run_word.Goals as goal

pub returns-in-Unread : goal.returns-in-Unread
unfolding refusal
returns-in-Unread c = rw c.in-Unread.is c.refused_word.ensures

pub returns-in-WrongMemory : goal.returns-in-WrongMemory
unfolding refusal fault_numbers
returns-in-WrongMemory c = rw c.in-WrongMemory.is (tells_before _ (21 ∷ 0 ∷ 0 ∷ []) c.packed.ensures)
