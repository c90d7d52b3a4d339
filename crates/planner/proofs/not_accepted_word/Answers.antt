-- `planner::not_accepted_word` meets its contract: the parts of each refusal.
use Rattle.kernel.specs.Answers.{check_numbers, refusal_numbers}
use Rattle.check_file.specs.View.{answer}
use Rattle.planner.proofs.not_accepted_word.Goals as goal

pub returns-in-Unread : goal.returns-in-Unread
unfolding answer check_numbers
returns-in-Unread c = rw c.in-Unread.is c.refused_word.ensures

pub returns-in-Refused : goal.returns-in-Refused
unfolding answer check_numbers refusal_numbers
returns-in-Refused c = rw (c.in-Refused.is, ← c.from.ensures) c.packed.ensures
