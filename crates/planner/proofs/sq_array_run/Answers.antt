-- `planner::sq_array_run` meets its contract: the array run, and its answer as a word.
use Rattle.planner.proofs.sq_array_run.Goals as goal

pub returns : goal.returns
returns c =
    (c.ran_word.ensures _ c.array_run.ensures.0, c.array_run.ensures.1)
