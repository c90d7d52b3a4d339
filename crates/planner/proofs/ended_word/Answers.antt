-- `planner::ended_word` meets its contract: the parts of each ending.
use Rattle.kernel.specs.Answers.{ending_numbers}
use Rattle.run_calls.specs.View.{ending}
use Rattle.planner.proofs.ended_word.Goals as goal

pub returns-in-Ok : goal.returns-in-Ok
unfolding ending ending_numbers
returns-in-Ok c = rw c.in-Ok.is c.packed.ensures

pub returns-in-Err : goal.returns-in-Err
unfolding ending ending_numbers
returns-in-Err c = rw (c.in-Err.is, ← c.from.ensures) c.packed-in-Err.ensures
