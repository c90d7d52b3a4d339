-- `read_file::added` meets its contract.
use mathlib.Core.Path.{sym, ◌∙◌}
use native.Mathlib.Nat.{add-zero}
use borrow.Author.Tests.{eq-eqb, ne_eqb}
use Rattle.kernel.specs.File as File
use Rattle.read_file.proofs.added.Goals as goal

pub returns-then-a-from : goal.returns-then-a-from
unfolding File.only File.on File.side_of
returns-then-a-from c = simp (eq-eqb _ _ (c.if-a-from.true ∙ c.from.ensures))

pub returns-else-a-from : goal.returns-else-a-from
unfolding File.only File.on File.side_of
returns-else-a-from c = simp (ne_eqb _ _ (λ e. c.if-a-from.false (e ∙ sym c.from.ensures))) (sym (add-zero _))
