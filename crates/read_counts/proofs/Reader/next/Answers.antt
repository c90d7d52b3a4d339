-- `Reader::next` meets its contract.
use mathlib.Core.Path.{ap}
use borrow.Author.Tests.{lt-ltb, le-ltb}
use Rattle.std.specs.Prelude.{Some}
use Rattle.read_counts.specs.View.{number}
use Rattle.read_counts.proofs.Reader.next.Goals as goal

pub returns-then-self : goal.returns-then-self
unfolding number
returns-then-self c = simp (lt-ltb _ _ c.if-self.true) (ap Some c.word.ensures)

pub returns-else-self : goal.returns-else-self
unfolding number
returns-else-self c = simp (le-ltb _ _ c.if-self.false)
