-- `planner::sq_stream_run` meets its contract: the stream run, and its answer as a word.
use Rattle.planner.proofs.sq_stream_run.Goals as goal

pub returns : goal.returns
returns c =
    (c.counted_word.ensures _ c.stream_run.ensures.0, c.stream_run.ensures.1)
