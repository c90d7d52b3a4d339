-- A row of small numbers stays one where one of them is changed to a small one.
use Prim.Native.Nat.{ℕ, zero, suc}
use mathlib.Core.List.{List, [], ◌∷◌}
use lib.IntN.{ℤ, pos}
use lib.ListN.{get_or, set}
use Rattle.numbers.specs.Bounds.{Small}

pub set_small : {A : ℕ} (cs : List ℤ) (n : ℕ) (z : ℤ) → ((i : ℕ) → Small A (get_or cs i (pos 0))) → Small A z → (i : ℕ) → Small A (get_or (set cs n z) i (pos 0))
set_small [] n z h k i = h i
set_small (c ∷ cs) zero z h k zero = k
set_small (c ∷ cs) zero z h k (suc i) = h (suc i)
set_small (c ∷ cs) (suc n) z h k zero = h 0
set_small (c ∷ cs) (suc n) z h k (suc i) = set_small cs n z (λ j. h (suc j)) k i
