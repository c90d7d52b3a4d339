-- `run_ops::result` meets its contract: a word for each operator, or none for a zero divisor.
use Prim.Native.Nat.{ℕ}
use mathlib.Core.Path.{◌≡◌, refl, sym, ap, ◌∙◌}
use mathlib.Core.Bool.{not}
use borrow.Author.Tests.{eq-eqb, ne_eqb}
use Rattle.numbers.specs.Result.{ok, stop, need}
use Rattle.numbers.specs.Words.{over}
use Rattle.kernel.specs.File.{divide}
use Rattle.kernel.specs.Machine as Machine
use Rattle.kernel.specs.Named.{reason}
use Rattle.parts.specs.Statements.{operator}
use Rattle.run_ops.specs.States.{worked}
use Rattle.run_ops.proofs.States.{goes_on, stops}
use Rattle.run_ops.proofs.result.Goals as goal

quotient : (a b : ℕ) → (b ≡ 0 → ⊥) → Machine.result divide a b ≡ ok (over a b)
unfolding Machine.result need
quotient a b h = goes_on _ (ap (λ t. need 32 (not t)) (ne_eqb b 0 h)) refl

no_quotient : (a b : ℕ) → b ≡ 0 → Machine.result divide a b ≡ stop 32
unfolding Machine.result need
no_quotient a b h = stops _ (ap (λ t. need 32 (not t)) (eq-eqb b 0 h))

pub returns-in-Add : goal.returns-in-Add
unfolding operator Machine.result worked
returns-in-Add c = rw c.in-Add.is (ap ok c.plus.ensures)

pub returns-in-Subtract : goal.returns-in-Subtract
unfolding operator Machine.result worked
returns-in-Subtract c = rw c.in-Subtract.is (ap ok c.minus.ensures)

pub returns-in-Multiply : goal.returns-in-Multiply
unfolding operator Machine.result worked
returns-in-Multiply c = rw c.in-Multiply.is (ap ok c.times.ensures)

pub returns-in-Divide : goal.returns-in-Divide
unfolding operator worked reason
returns-in-Divide c = rw c.in-Divide.is (sym (no_quotient c.args.a c.args.b c.if-b-eq0.true))

pub returns-in-Divide-2 : goal.returns-in-Divide-2
unfolding operator worked
returns-in-Divide-2 c = rw c.in-Divide-2.is (ap ok c.over.ensures ∙ sym (quotient c.args.a c.args.b c.if-b-eq0.false))
