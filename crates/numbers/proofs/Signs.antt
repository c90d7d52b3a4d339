-- Signed numbers in 64 bits: bounds under which sums, differences, products and quotients fit, and what a word's signed number and low bits are.
use Rattle.std.proofs.Common.{◌≡◌, ℕ, suc, ◌+◌, ◌-◌, ◌*◌, ◌/◌, ◌%◌, ◌^◌, ◌<◌, ◌≤◌, Bool, true, false, cond, not, T, ltb, leb, ◌⊎◌, ℤ, pos, negsuc, ◌+ℤ◌, ◌-ℤ◌, ◌*ℤ◌, nat_abs, sym, refl, ap, ◌∙◌, subst, inl, inr, arith, lit<, ltb→lt, leb→le, nltb→le, to_z-of_z, w64, SFits, to_z, of_z, ltb-false, ltb-true, le-ltb, lt-ltb}
use native.Mathlib.Nat as NatL
use lib.Signed.{mag, quot_z}
use mir.Val.{sel}
use Rattle.numbers.specs.Bounds.{Small}
use Rattle.numbers.specs.Words.{signed, low32}
use Rattle.numbers.proofs.Order.{abs_add, abs_neg, abs_sub, abs_mul}

module _ {A B : ℕ} {a b : ℤ} (h : Small A a) (k : Small B b) where
  pub small_add : Small (A + B) (a +ℤ b)
  small_add = record { abs = NatL.le_trans (abs_add a b) (NatL.add-le-add h.abs k.abs) }

  pub small_sub : Small (A + B) (a -ℤ b)
  small_sub = record { abs = NatL.le_trans (abs_sub a b) (NatL.add-le-add h.abs k.abs) }

  pub small_mul : Small (A * B) (a *ℤ b)
  small_mul = record { abs = subst (λ (n : ℕ). n ≤ A * B) (sym (abs_mul a b)) (NatL.mul-le-mul h.abs k.abs) }

pub abs_quot : (a b : ℤ) → nat_abs (quot_z a b) ≡ nat_abs a / nat_abs b
abs_quot (pos a) (pos b) = refl
abs_quot (pos a) (negsuc b) = abs_neg (pos (a / suc b))
abs_quot (negsuc a) (pos b) = abs_neg (pos (suc a / b))
abs_quot (negsuc a) (negsuc b) = refl

pub small_quot : {A : ℕ} {a : ℤ} (b : ℤ) → Small A a → Small A (quot_z a b)
small_quot {A} {a} b h = record { abs = rw (abs_quot a b) (NatL.le_trans (NatL.div-le_self (nat_abs a) (nat_abs b)) h.abs) }

pub small_zero : {A : ℕ} → Small A (pos 0)
small_zero = record { abs = omega arith }

pub small_pos : {n : ℕ} → n < 2 ^ 32 → Small (2 ^ 32) (pos n)
small_pos h = record { abs = omega arith }

-- ---- a signed local holds bits: what is read of it is `back z`, which is z where z fits

mag_abs : (z : ℤ) → mag z ≤ nat_abs z
mag_abs (pos n) = omega arith
mag_abs (negsuc n) = omega arith

abbrev pub back : ℤ → ℤ
back z = to_z w64 (of_z w64 z)

-- of any z, in range or not
back_abs : (z : ℤ) → nat_abs (back z) ≤ nat_abs z
back_abs (pos n) = by (ltb n (2 ^ 63)) (λ t. omega arith) (λ t. let h = nltb→le n (2 ^ 63) t in omega arith)
  where
    by : (t : Bool) → (T t → n ≤ n) → (T (not t) → suc (2 ^ 64 - suc n) ≤ n) → nat_abs (sel t (pos n) (negsuc (2 ^ 64 - suc n))) ≤ n
    by true f g = f tt
    by false f g = g tt
back_abs (negsuc n) = by (ltb (2 ^ 64 - suc n) (2 ^ 63)) (λ t. let h = ltb→lt (2 ^ 64 - suc n) (2 ^ 63) t in omega arith) (λ t. omega arith)
  where
    by : (t : Bool) → (T t → 2 ^ 64 - suc n ≤ suc n) → (T (not t) → suc (2 ^ 64 - suc (2 ^ 64 - suc n)) ≤ suc n) → nat_abs (sel t (pos (2 ^ 64 - suc n)) (negsuc (2 ^ 64 - suc (2 ^ 64 - suc n)))) ≤ suc n
    by true f g = f tt
    by false f g = g tt

module _ {A : ℕ} {a : ℤ} (h : Small A a) where
  pub small_back : Small A (back a)
  small_back = record { abs = NatL.le_trans (back_abs a) h.abs }

  -- at a written-out bound the test computes: `tt`
  pub fits : T (ltb A (2 ^ 63)) → SFits w64 a
  fits t = record { sfits = NatL.lt_of_le_of_lt (mag_abs a) (NatL.lt_of_le_of_lt h.abs (ltb→lt A (2 ^ 63) t)) }

  pub as_it_is : T (ltb A (2 ^ 63)) → back a ≡ a
  as_it_is t = to_z-of_z (fits t)

  pub wider : {B : ℕ} → T (leb A B) → Small B a
  wider {B} t = record { abs = NatL.le_trans h.abs (leb→le A B t) }

-- what an operation on two locals gives, bounded and, where it fits, exact
module _ {A B : ℕ} {a b : ℤ} (h : Small A a) (k : Small B b) where
  pub sum_back : Small (A + B) (back a +ℤ back b)
  sum_back = small_add (small_back h) (small_back k)

  pub product_back : Small (A * B) (back a *ℤ back b)
  product_back = small_mul (small_back h) (small_back k)

  pub back_sum : T (ltb A (2 ^ 63)) → T (ltb B (2 ^ 63)) → T (ltb (A + B) (2 ^ 63)) → back (back a +ℤ back b) ≡ a +ℤ b
  back_sum t u v = (λ i. back (as_it_is h t i +ℤ as_it_is k u i)) ∙ as_it_is (small_add h k) v

  pub back_product : T (ltb A (2 ^ 63)) → T (ltb B (2 ^ 63)) → T (ltb (A * B) (2 ^ 63)) → back (back a *ℤ back b) ≡ a *ℤ b
  back_product t u v = (λ i. back (as_it_is h t i *ℤ as_it_is k u i)) ∙ as_it_is (small_mul h k) v

-- a callee's result, from its `ok`
pub as_returned : {z : ℤ} → mag z < 2 ^ 63 → back z ≡ z
as_returned p = to_z-of_z {w = w64} (record { sfits = p })

-- a test `==` of two signed locals is one of their bits
pub same_bits : {a b : ℤ} → SFits w64 a → SFits w64 b → of_z w64 a ≡ of_z w64 b → a ≡ b
same_bits f g e = sym (to_z-of_z f) ∙ ap (to_z w64) e ∙ to_z-of_z g

-- ---- words

pub signed_low : {w : ℕ} → w < 2 ^ 31 → signed w ≡ pos w
unfolding signed
signed_low {w} h = ap (λ (t : Bool). cond t (pos w) (negsuc (2 ^ 32 - suc w))) (lt-ltb w (2 ^ 31) h)

pub signed_high : {w : ℕ} → 2 ^ 31 ≤ w → signed w ≡ negsuc (2 ^ 32 - suc w)
unfolding signed
signed_high {w} h = ap (λ (t : Bool). cond t (pos w) (negsuc (2 ^ 32 - suc w))) (le-ltb w (2 ^ 31) h)

pub halves : (w : ℕ) → (w < 2 ^ 31) ⊎ (2 ^ 31 ≤ w)
halves w = by (ltb w (2 ^ 31)) refl
  where
    by : (t : Bool) → ltb w (2 ^ 31) ≡ t → (w < 2 ^ 31) ⊎ (2 ^ 31 ≤ w)
    by true e = inl (ltb-true w (2 ^ 31) e)
    by false e = inr (ltb-false w (2 ^ 31) e)

-- either as a difference: v is the word 2³¹ on, wrapped
pub signed_less : {w v : ℕ} → w < 2 ^ 32 → v ≡ (w + 2 ^ 31) % 2 ^ 32 → pos v -ℤ pos (2 ^ 31) ≡ signed w
signed_less {w} {v} k e = by (halves w)
  where
    difference : Bool → ℤ
    difference t = cond t (negsuc (2 ^ 31 - suc v)) (pos (v - 2 ^ 31))

    by : (w < 2 ^ 31) ⊎ (2 ^ 31 ≤ w) → pos v -ℤ pos (2 ^ 31) ≡ signed w
    by (inl h) = let f : v - 2 ^ 31 ≡ w = omega arith in ap difference (le-ltb v (2 ^ 31) (omega arith)) ∙ ap pos f ∙ sym (signed_low h)
    by (inr h) = let f : 2 ^ 31 - suc v ≡ 2 ^ 32 - suc w = omega arith in ap difference (lt-ltb v (2 ^ 31) (omega arith)) ∙ ap negsuc f ∙ sym (signed_high h)

pub small_signed : {w : ℕ} → w < 2 ^ 32 → Small (2 ^ 31) (signed w)
small_signed {w} k = by (halves w)
  where
    by : (w < 2 ^ 31) ⊎ (2 ^ 31 ≤ w) → Small (2 ^ 31) (signed w)
    by (inl h) = record { abs = rw (signed_low h) (omega arith) }
    by (inr h) = record { abs = rw (signed_high h) (omega arith) }

-- the word of a number of 64 bits is the low half of its bits
pub low_bits : (z : ℤ) → SFits w64 z → of_z w64 z % 2 ^ 32 ≡ low32 z
unfolding low32
low_bits (pos n) f = refl
low_bits (negsuc n) f = let h : n < 2 ^ 63 = f.sfits in omega arith

pub product : {a b : ℕ} → a < 2 ^ 32 → b < 2 ^ 32 → a * b < 2 ^ 64
product {a} {b} h k = NatL.lt_of_le_of_lt (NatL.mul-le-mul {n₁ = a} {m₁ = b} {n₂ = 2 ^ 32 - 1} {m₂ = 2 ^ 32 - 1} (omega arith) (omega arith)) (lit< tt)

-- the bits of a word's signed number are not 0 where the word is not
pub not_zero : {w : ℕ} → 0 < w → w < 2 ^ 32 → 0 < of_z w64 (signed w)
not_zero {w} h k = by (halves w)
  where
    by : (w < 2 ^ 31) ⊎ (2 ^ 31 ≤ w) → 0 < of_z w64 (signed w)
    by (inl l) = rw (signed_low {w = w} l) h
    by (inr l) = rw (signed_high {w = w} l) (omega arith)
