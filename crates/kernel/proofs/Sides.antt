-- The side of an array: what is on no side, and the numbers of a side's arrays alone.
use Prim.Native.Nat.{ℕ, ◌<◌}
use mathlib.Core.Path.{◌≡◌, refl, ap}
use mathlib.Core.Bool.{Bool, true, false, cond}
use mathlib.Core.Logic.{◌⊎◌, inl, inr}
use native.Mathlib.Omega.{arith}
use lib.Dec.{eqb}
use borrow.Author.Tests.{eq-eqb, ne_eqb, eqb-true}
use Rattle.kernel.specs.File.{Rec, nothing, side_of, on, only}
use Rattle.kernel.specs.Guarantees.{ArrayFits}

-- what stands past the last array
pub side_nothing : side_of nothing ≡ 0
unfolding side_of
side_nothing = refl

-- a number of an array on the side, and none of one that is not
pub only_on : (side : ℕ) (n : Rec → ℕ) (a : Rec) → side_of a ≡ side → only side n a ≡ n a
unfolding only on
only_on side n a e = ap (λ t. cond t (n a) 0) (eq-eqb (side_of a) side e)

pub on_only : (side : ℕ) (n : Rec → ℕ) (a : Rec) (k : ℕ) → k < only side n a → side_of a ≡ side
unfolding only on
on_only side n a k h = by (eqb (side_of a) side) refl h
  where
    by : (t : Bool) → eqb (side_of a) side ≡ t → k < cond t (n a) 0 → side_of a ≡ side
    by true e h = eqb-true (side_of a) side e
    by false e h = absurd (omega arith)

-- an array that fits is on one of the two sides
pub only_0 : (n : Rec → ℕ) (a : Rec) → ArrayFits a → only 0 n a ≡ 0
unfolding only on
only_0 n a h = ap (λ t. cond t (n a) 0) (ne_eqb (side_of a) 0 (by h.side))
  where
    by : (side_of a ≡ 1) ⊎ (side_of a ≡ 2) → side_of a ≡ 0 → ⊥
    by (inl e) z = omega arith
    by (inr e) z = omega arith
