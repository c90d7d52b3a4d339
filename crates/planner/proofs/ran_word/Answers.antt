-- `planner::ran_word` meets its contract: the array run's answer without its counts.
use native.Mathlib.Omega.{arith}
use Rattle.run_calls.specs.View.{ending, answer}
use Rattle.planner.proofs.Answered.{array_answer_numbers, array_tells, counts_left_out}
use Rattle.planner.proofs.ran_word.Goals as goal

pub returns-in-Ok : goal.returns-in-Ok
unfolding answer array_answer_numbers
returns-in-Ok c = λ m e. array_tells _ _ _ c.in-Ok.is m e (counts_left_out _ _ c.ended_word.ensures (omega arith) (omega arith))

pub returns-in-Err : goal.returns-in-Err
unfolding answer array_answer_numbers
returns-in-Err c = λ m e. array_tells _ _ _ c.in-Err.is m e c.not_run_word.ensures
