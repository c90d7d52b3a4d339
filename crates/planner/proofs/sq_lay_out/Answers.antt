-- `planner::sq_lay_out` meets its contract: laying out, and its answer as a word.
use Rattle.planner.proofs.sq_lay_out.Goals as goal

pub returns : goal.returns
returns c =
    (c.done_word.ensures _ c.lay_out.ensures.0, c.lay_out.ensures.1)
