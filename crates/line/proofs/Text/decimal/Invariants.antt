use Prim.Native.Nat.{ℕ, suc, ◌≤◌}
use mathlib.Core.Path.{◌≡◌}
use mathlib.Core.List.{List}
use Rattle.kernel.specs.Answers.{decimal}
use Rattle.line.specs.View.{Shows}
use Rattle.line.proofs.Digits.{Room}
use Rattle.line.proofs.Text.decimal.Given as goal

abbrev pub invariant-loop-rest : goal.invariant-loop-rest
invariant-loop-rest l =
    ((u : List ℕ) → Shows l.initial.t u → (v : List ℕ) × Shows l.t v × (decimal (suc l.rest) l.rest v ≡ decimal (suc l.n) l.n u)) × Room l.rest l.initial.t.from l.t.from × (l.t.from ≤ 32)

abbrev pub decreases-loop-rest : goal.decreases-loop-rest
decreases-loop-rest l = l.rest
