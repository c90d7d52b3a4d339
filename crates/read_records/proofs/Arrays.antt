-- The tests of an array: its step, its first index, and the index of its last item in 64 bits.
use mathlib.Core.Path.{◌≡◌, refl, sym, ap, ◌∙◌}
use mathlib.Core.Bool.{Bool, true, false, not, ◌&&◌, ◌||◌}
use mathlib.Core.Logic.{◌⊎◌, inl, inr}
use Prim.Native.Nat.{ℕ, zero, suc, ◌-◌, ◌^◌, ◌<◌, ◌≤◌}
use native.Mathlib.Omega.{arith}
use lib.IntN.{ℤ, pos, negsuc, ◌+ℤ◌, ◌*ℤ◌}
use lib.Dec.{eqb, ltb}
use lib.ListN.{get_or, drop}
use borrow.Author.Tests.{ne_eqb, le-ltb}
use mir.Syntax.{w64}
use mir.Val.{SFits, to_z}
use mir.Facts.{to_z_pos}
use Rattle.numbers.specs.Words.{signed, between, within, inside, equal}
use Rattle.numbers.specs.Bounds.{Small}
use Rattle.numbers.proofs.Signs.{halves, signed_low, signed_high, small_signed, small_add, small_mul, small_back, back, fits, as_it_is}
use Rattle.numbers.proofs.Tests.{not_equal, between_range}
use Rattle.kernel.specs.File.{side_of, on, step_of, index}
use Rattle.kernel.specs.Reading.{zeros, array_fits}
use Rattle.parts.specs.declared.Rec.{Rec}
use Rattle.parts.specs.Records.{rec}
use Rattle.read_records.proofs.Tests.{both_true, eight_regrouped}

-- only the word 0 is the number 0
pub moves : (w : ℕ) → (w ≡ 0 → ⊥) → not (equal (signed w) (pos 0)) ≡ true
moves w h = ap not (not_equal {a = signed w} {b = pos 0} (by (halves w)))
  where
    by : (w < 2 ^ 31) ⊎ (2 ^ 31 ≤ w) → signed w ≡ pos 0 → ⊥
    by (inl l) e = let z : pos w ≡ pos 0 = sym (signed_low l) ∙ e in h (cc)
    by (inr l) e =
        let z : negsuc (2 ^ 32 - suc w) ≡ pos 0 = sym (signed_high l) ∙ e in
        let o : ◌≡◌ {A = ℕ} 0 1 = cc in
        omega arith

moves_is : (w : ℕ) → not (eqb w 0) ≡ not (equal (signed w) (pos 0))
unfolding signed equal
moves_is zero = refl
moves_is (suc w) = ap not (ne_eqb (suc w) 0 (λ e. omega arith)) ∙ sym (moves (suc w) (λ e. omega arith))

pub outside : (n i : ℕ) → n ≤ i → inside n (pos i) ≡ false
unfolding inside
outside n i h = le-ltb i n h

-- ---- the tests of an array in their turn: those before the last index

module _ (a : Rec) where
  abbrev pub tested : Bool
  tested =
      ((((((eqb a.code 1 || eqb a.code 2) && between 1 4096 a.p) && between 1 a.p a.k) && not (eqb (get_or a.x 0 0) 0)) && within 4096 (signed (get_or a.x 0 0)))
      && zeros (drop 1 a.x)) && ltb a.q a.p

  pub counted : tested ≡ true → 1 ≤ a.k
  counted h =
      let f = both_true _ _ (both_true _ _ (both_true _ _ (both_true _ _ h).0).0).0 in
      (between_range 1 a.p a.k (both_true _ _ f.0).1).0

  pub in_turn : (tested && inside a.p (pos a.q +ℤ signed (get_or a.x 0 0) *ℤ pos (a.k - 1))) ≡ array_fits (rec a)
  unfolding array_fits on side_of step_of index inside
  in_turn =
      eight_regrouped (eqb a.code 1 || eqb a.code 2) (between 1 4096 a.p) (between 1 a.p a.k) (not (eqb (get_or a.x 0 0) 0)) (within 4096 (signed (get_or a.x 0 0))) (zeros (drop 1 a.x)) (inside a.p (pos a.q))
      (inside a.p (pos a.q +ℤ signed (get_or a.x 0 0) *ℤ pos (a.k - 1)))
      ∙ ap (λ m. (eqb a.code 1 || eqb a.code 2) && between 1 4096 a.p && between 1 a.p a.k && m && within 4096 (signed (get_or a.x 0 0)) && zeros (drop 1 a.x)
      && inside a.p (pos a.q) && inside a.p (pos a.q +ℤ signed (get_or a.x 0 0) *ℤ pos (a.k - 1))) (moves_is (get_or a.x 0 0))

-- ---- the last index: z is the step as the code has it

module _ {q k step : ℕ} {z : ℤ} (e : z ≡ signed step) (hq : q < 2 ^ 32) (hk : k < 2 ^ 32) (hs : step < 2 ^ 32) (one : 1 ≤ k) where
  step_small : Small (2 ^ 31) z
  step_small = rw e (small_signed hs)

  first_small : Small (2 ^ 32 - 1) (pos q)
  first_small = record { abs = omega arith }

  passed_small : Small (2 ^ 32 - 2) (pos (k - 1))
  passed_small = record { abs = omega arith }

  first_is : to_z w64 q ≡ pos q
  first_is = to_z_pos w64 (omega arith)

  passed_is : to_z w64 (k - 1) ≡ pos (k - 1)
  passed_is = to_z_pos w64 (omega arith)

  pub product_fits : SFits w64 (back z *ℤ to_z w64 (k - 1))
  product_fits = rw passed_is (fits (small_mul (small_back step_small) passed_small) tt)

  pub last_fits : SFits w64 (to_z w64 q +ℤ back (back z *ℤ to_z w64 (k - 1)))
  last_fits = rw (first_is, passed_is) (fits (small_add first_small (small_back (small_mul (small_back step_small) passed_small))) tt)

  pub last_is : back (to_z w64 q +ℤ back (back z *ℤ to_z w64 (k - 1))) ≡ pos q +ℤ signed step *ℤ pos (k - 1)
  last_is =
      let m = small_mul step_small passed_small in
      (λ i. back (first_is i +ℤ back (as_it_is step_small tt i *ℤ passed_is i)))
      ∙ (λ i. back (pos q +ℤ as_it_is m tt i))
      ∙ as_it_is (small_add first_small m) tt
      ∙ ap (λ s. pos q +ℤ s *ℤ pos (k - 1)) e
