-- The passes of a loop in 64 bits: what the code's numbers come to, and `whole` in each of its cases.
use Prim.Native.Nat.{ℕ, suc, ◌^◌}
use mathlib.Core.Path.{◌≡◌, refl, sym, ap, ap₂, ◌∙◌}
use mathlib.Core.Bool.{Bool, true, false, cond}
use native.Mathlib.Omega.{arith}
use native.Mathlib.Nat as NatL
use lib.Dec.{T, lit<}
use lib.IntN.{ℤ, pos, negsuc, neg_ℤ, nat_abs, ◌-ℤ◌, ◌*ℤ◌}
use lib.Signed.{quot_z, lt_z, non_neg}
use mir.Syntax.{w64}
use mir.Val.{Fits, SFits, to_z, of_z}
use mir.Facts.{to_z-of_z}
use Rattle.numbers.specs.Words.{equal}
use Rattle.numbers.proofs.Order.{abs_mul, not_negative}
use Rattle.numbers.proofs.Tests.{eq_equal, equal_eq}
use Rattle.numbers.specs.Bounds.{Small}
use Rattle.numbers.proofs.Signs.{small_sub, small_quot, back, fits, as_it_is, abs_quot}
use Rattle.kernel.specs.File.{whole_steps}

-- ---- `whole`, by the quotient

either_way : (t : Bool) → ◌≡◌ {A = ℕ} (cond t 0 0) 0
either_way true = refl
either_way false = refl

quotients : (d s z : ℤ) → ℕ
quotients d s z = elim z [ pos n ↦ cond (equal (pos n *ℤ s) d) n 0 | negsuc n ↦ 0 ]

whole_by : (d s : ℤ) → whole_steps d s ≡ quotients d s (quot_z d s)
unfolding whole_steps quotients
whole_by d s = refl

by_zero : (d : ℤ) → quot_z d (pos 0) ≡ pos 0
by_zero (pos a) = ap pos (NatL.div-zero a)
by_zero (negsuc a) = ap (λ (n : ℕ). neg_ℤ (pos n)) (NatL.div-zero (suc a))

whole_zero : (d : ℤ) → whole_steps d (pos 0) ≡ 0
unfolding quotients
whole_zero d = whole_by d (pos 0) ∙ ap (quotients d (pos 0)) (by_zero d) ∙ either_way (equal (pos 0 *ℤ pos 0) d)

never_not : (n : ℕ) → lt_z (negsuc n) (pos 0) ≡ false → ⊥
never_not n h = let z : ◌≡◌ {A = ℕ} 0 1 = cc in omega arith

quotient_negative : (d s z : ℤ) → lt_z z (pos 0) ≡ true → quotients d s z ≡ 0
unfolding quotients
quotient_negative d s (pos n) h = absurd (not_negative n h)
quotient_negative d s (negsuc n) h = refl

quotient_broken : (d s z : ℤ) → (z *ℤ s ≡ d → ⊥) → quotients d s z ≡ 0
unfolding quotients
quotient_broken d s (pos n) h = by (equal (pos n *ℤ s) d) refl
  where
    by : (t : Bool) → equal (pos n *ℤ s) d ≡ t → cond (equal (pos n *ℤ s) d) n 0 ≡ 0
    by true e = absurd (h (equal_eq (pos n *ℤ s) d e))
    by false e = ap (λ t. cond t n 0) e
quotient_broken d s (negsuc n) h = refl

quotient_whole : (d s z : ℤ) → lt_z z (pos 0) ≡ false → z *ℤ s ≡ d → quotients d s z ≡ nat_abs z
unfolding quotients
quotient_whole d s (pos n) h e = ap (λ t. cond t n 0) (eq_equal e)
quotient_whole d s (negsuc n) h e = absurd (never_not n h)

-- ---- the code's numbers: a and b are limit and first, s is the step

non_negative : (z : ℤ) → lt_z z (pos 0) ≡ false → T (non_neg z)
non_negative (pos n) h = tt
non_negative (negsuc n) h = absurd (never_not n h)

module _ {a b : ℤ} (ha : Small (2 ^ 31) a) (hb : Small (2 ^ 31) b) where
  abbrev distance : ℤ
  distance = back (back a -ℤ back b)

  d_small : Small (2 ^ 32) (a -ℤ b)
  d_small = small_sub ha hb

  plain_d : back a -ℤ back b ≡ a -ℤ b
  plain_d = ap₂ ◌-ℤ◌ (as_it_is ha tt) (as_it_is hb tt)

  d_is : distance ≡ a -ℤ b
  d_is = ap back plain_d ∙ as_it_is d_small tt

  pub sub_fits : SFits w64 (back a -ℤ back b)
  sub_fits = rw plain_d (fits d_small tt)

module _ {a b s : ℤ} (ha : Small (2 ^ 31) a) (hb : Small (2 ^ 31) b) (hs : Small (2 ^ 31) s) where
  abbrev quotient : ℤ
  quotient = back (quot_z (distance ha hb) (back s))

  plain_n : quot_z (distance ha hb) (back s) ≡ quot_z (a -ℤ b) s
  plain_n = ap₂ quot_z (d_is ha hb) (as_it_is hs tt)

  n_small : Small (2 ^ 32) (quot_z (a -ℤ b) s)
  n_small = small_quot s (d_small ha hb)

  pub n_is : quotient ≡ quot_z (a -ℤ b) s
  n_is = ap back plain_n ∙ as_it_is n_small tt

  -- the quotient times the step is no larger than what was divided
  product_small : Small (2 ^ 32) (quot_z (a -ℤ b) s *ℤ s)
  product_small = record {
    abs = rw (abs_mul (quot_z (a -ℤ b) s) s, abs_quot (a -ℤ b) s) (NatL.le_trans (NatL.div-mul-le_self (nat_abs (a -ℤ b)) (nat_abs s)) (d_small ha hb).abs);
  }

  plain_product : quotient *ℤ back s ≡ quot_z (a -ℤ b) s *ℤ s
  plain_product = ap₂ ◌*ℤ◌ n_is (as_it_is hs tt)

  pub quot_fits : SFits w64 (quot_z (distance ha hb) (back s))
  quot_fits = rw plain_n (fits n_small tt)

  pub mul_fits : SFits w64 (quotient *ℤ back s)
  mul_fits = rw plain_product (fits product_small tt)

  pub at_zero : of_z w64 s ≡ 0 → 0 ≡ whole_steps (a -ℤ b) s
  at_zero e =
      let z : s ≡ pos 0 = sym (as_it_is hs tt) ∙ ap (to_z w64) e in
      sym (ap (whole_steps (a -ℤ b)) z ∙ whole_zero (a -ℤ b))

  pub at_negative : lt_z quotient (pos 0) ≡ true → 0 ≡ whole_steps (a -ℤ b) s
  at_negative h = sym (whole_by (a -ℤ b) s ∙ quotient_negative (a -ℤ b) s (quot_z (a -ℤ b) s) (ap (λ z. lt_z z (pos 0)) (sym n_is) ∙ h))

  -- the code compares bits
  pub at_broken : (of_z w64 (quotient *ℤ back s) ≡ of_z w64 (back a -ℤ back b) → ⊥) → 0 ≡ whole_steps (a -ℤ b) s
  at_broken h = sym (whole_by (a -ℤ b) s ∙ quotient_broken (a -ℤ b) s (quot_z (a -ℤ b) s) (λ e. h (ap (of_z w64) (plain_product ∙ e ∙ sym (plain_d ha hb)))))

  pub at_whole : lt_z quotient (pos 0) ≡ false → of_z w64 (quotient *ℤ back s) ≡ of_z w64 (back a -ℤ back b) → nat_abs quotient ≡ whole_steps (a -ℤ b) s
  at_whole h e =
      let same : quot_z (a -ℤ b) s *ℤ s ≡ a -ℤ b
      = sym plain_product ∙ sym (to_z-of_z mul_fits) ∙ ap (to_z w64) e ∙ to_z-of_z (sub_fits ha hb) ∙ plain_d ha hb in
      ap nat_abs n_is ∙ sym (whole_by (a -ℤ b) s ∙ quotient_whole (a -ℤ b) s (quot_z (a -ℤ b) s) (ap (λ z. lt_z z (pos 0)) (sym n_is) ∙ h) same)

  pub cast_fits : lt_z quotient (pos 0) ≡ false → T (non_neg quotient) × Fits w64 (nat_abs quotient)
  cast_fits h = (non_negative quotient h, record { fits = rw n_is (NatL.lt_of_le_of_lt n_small.abs (lit< tt)) })
