-- `planner::sq_put_back` meets its contract: putting back, and its answer as a word.
use Rattle.planner.proofs.sq_put_back.Goals as goal

pub returns : goal.returns
returns c =
    (c.done_word.ensures _ c.put_back.ensures.0, c.put_back.ensures.1)
