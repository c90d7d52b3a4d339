-- `planner::counted_word` meets its contract: the stream run's answer with its counts.
use Rattle.run_calls.specs.View.{answer}
use Rattle.planner.proofs.Answered.{stream_answer_numbers, stream_tells}
use Rattle.planner.proofs.counted_word.Goals as goal

pub returns-in-Ok : goal.returns-in-Ok
unfolding answer stream_answer_numbers
returns-in-Ok c = λ m e. stream_tells _ _ _ c.in-Ok.is m e c.ended_word.ensures

pub returns-in-Err : goal.returns-in-Err
unfolding answer stream_answer_numbers
returns-in-Err c = λ m e. stream_tells _ _ _ c.in-Err.is m e c.not_run_word.ensures
