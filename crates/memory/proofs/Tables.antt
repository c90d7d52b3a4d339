-- A table that a function of the index makes.
use Prim.Native.Nat.{ℕ, zero, suc, ◌+◌, ◌<◌, ◌≤◌}
use mathlib.Core.Path.{◌≡◌, sym, subst, ◌∙◌}
use mathlib.Core.List.{List}
use native.Mathlib.Omega.{arith}
use native.Mathlib.Decide.{ℕ_discrete, dec_lt}
use denote.Param.Members.{Called, Mut}
use lib.ListN.{get_or, get_or-eq_default}
use Rattle.std.specs.Array.{IsFromFnResult, IsFromFnResultFrom}

module _ {F : Type 0} (g : Mut F (ℕ × Unit {0}) ℕ) (h : ℕ → ℕ) (f : F) (gives : (i y : ℕ) (q : F) → Called g f (i, tt) y q → (q ≡ f) × (y ≡ h i)) where
  made_from : (ys : List ℕ) (n i k : ℕ) → IsFromFnResultFrom g f ys i n → i ≤ k → k < i + n → get_or ys k 0 ≡ h k
  made_from ys zero i k m a b = absurd (omega arith)
  made_from ys (suc n) i k (q, y, e, c, m) a b =
      by (ℕ_discrete i k) (λ l. made_from ys n (i + 1) k (subst (λ p. IsFromFnResultFrom g p ys (i + 1) n) ((gives i y q c).0) m) l (omega arith))
    where
      by : Dec (i ≡ k) → (i + 1 ≤ k → get_or ys k 0 ≡ h k) → get_or ys k 0 ≡ h k
      by (yes z) later = subst (λ k. get_or ys k 0 ≡ h k) z (e.1 0 ∙ (gives i y q c).1)
      by (no z) later = later (omega arith)

  -- where it is 0 from n on, that is all of the table
  pub made : (ys : List ℕ) (n : ℕ) → IsFromFnResult g f ys n → ((q : ℕ) → n ≤ q → h q ≡ 0) → (q : ℕ) → get_or ys q 0 ≡ h q
  made ys n r z q = by (dec_lt q n)
    where
      by : Dec (q < n) → get_or ys q 0 ≡ h q
      by (yes b) = made_from ys n 0 q r.each (omega arith) (omega arith)
      by (no b) = get_or-eq_default ys 0 {n = q} (omega (arith, r.long)) ∙ sym (z q (omega arith))
