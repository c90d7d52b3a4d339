-- The decimal digits of a number, from the last to the first.
use Prim.Native.Nat.{ℕ, zero, suc, ◌+◌, ◌/◌, ◌%◌, ◌≤◌, ◌<◌}
use mathlib.Core.Path.{◌≡◌, refl, sym, ap, ◌∙◌}
use mathlib.Core.Bool.{Bool, true, false}
use mathlib.Core.List.{List, ◌∷◌}
use native.Mathlib.Omega.{arith}
use lib.Dec.{ltb}
use borrow.Author.Tests.{ltb-true, ltb-false, lt-ltb, le-ltb}
use Rattle.kernel.specs.Answers.{decimal}

-- a number below 10 is its own digit
pub digit : (f n : ℕ) (t : List ℕ) → n < 10 → decimal (suc f) n t ≡ (48 + n) ∷ t
unfolding decimal
digit f n t h = ap (λ b. elim b [ true ↦ (48 + n) ∷ t | false ↦ decimal f (n / 10) ((48 + n % 10) ∷ t) ]) (lt-ltb n 10 h)

-- of another one the last digit goes before what follows
pub last_digit : (f n : ℕ) (t : List ℕ) → 10 ≤ n → decimal (suc f) n t ≡ decimal f (n / 10) ((48 + n % 10) ∷ t)
unfolding decimal
last_digit f n t h = ap (λ b. elim b [ true ↦ (48 + n) ∷ t | false ↦ decimal f (n / 10) ((48 + n % 10) ∷ t) ]) (le-ltb n 10 h)

same_digits : (f g n : ℕ) (t : List ℕ) (b : Bool) → ltb n 10 ≡ b → (10 ≤ n → decimal f (n / 10) ((48 + n % 10) ∷ t) ≡ decimal g (n / 10) ((48 + n % 10) ∷ t)) → decimal (suc f) n t ≡ decimal (suc g) n t
same_digits f g n t true e rest = digit f n t (ltb-true n 10 e) ∙ sym (digit g n t (ltb-true n 10 e))
same_digits f g n t false e rest = let h = ltb-false n 10 e in last_digit f n t h ∙ rest h ∙ sym (last_digit g n t h)

-- the bound on the digits changes nothing where it is enough
pub enough : (f g n : ℕ) (t : List ℕ) → n < f → n < g → decimal f n t ≡ decimal g n t
enough zero g n t h k = absurd (omega arith)
enough (suc f) zero n t h k = absurd (omega arith)
enough (suc f) (suc g) n t h k =
    same_digits f g n t (ltb n 10) refl λ m. enough f g (n / 10) ((48 + n % 10) ∷ t) (omega arith) (omega arith)
