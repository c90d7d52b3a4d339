-- A number that stands for no operator but the last divides.
use Prim.Native.Nat.{ℕ, zero, suc, ◌≤◌}
use mathlib.Core.Path.{◌≡◌, refl}
use native.Mathlib.Omega.{arith}
use Rattle.kernel.specs.File.{divide, operator}

pub divides : (w : ℕ) → (1 ≤ w → w ≤ 3 → ⊥) → operator w ≡ divide
unfolding operator
divides zero h = refl
divides (suc zero) h = absurd (h (omega arith) (omega arith))
divides (suc (suc zero)) h = absurd (h (omega arith) (omega arith))
divides (suc (suc (suc zero))) h = absurd (h (omega arith) (omega arith))
divides (suc (suc (suc (suc n)))) h = refl
