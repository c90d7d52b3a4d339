-- `parts::shown` meets its contract: the test picks the program.
use borrow.Author.Tests.{eq-eqb, ne_eqb}
use Rattle.kernel.specs.Answers.{shown}
use Rattle.parts.proofs.shown.Goals as goal

pub returns-then-choice-eq1 : goal.returns-then-choice-eq1
unfolding shown
returns-then-choice-eq1 c = simp (eq-eqb _ _ c.if-choice-eq1.true) c.from_record.ensures

pub returns-else-choice-eq1 : goal.returns-else-choice-eq1
unfolding shown
returns-else-choice-eq1 c = simp (ne_eqb _ _ c.if-choice-eq1.false) c.from_record-else-choice-eq1.ensures
