-- Ranges as the code tests them: a word's signed number within ±n, a number from 0 to n − 1.
use Rattle.std.proofs.Common.{◌≡◌, ℕ, suc, ◌-◌, ◌^◌, ◌<◌, ◌≤◌, Bool, true, false, ltb, ◌⊎◌, ℤ, pos, negsuc, sym, refl, ap, ◌∙◌, inl, inr, arith, ltb-false, ltb-true, le-ltb, lt-ltb, le-leb}
use mathlib.Core.Bool.{false≢true}
use lib.Signed.{le_z, lt_z}
use borrow.Author.Tests.{lt-leb}
use Rattle.numbers.specs.Words.{signed, within, inside}
use Rattle.numbers.proofs.Signs.{halves, signed_low, signed_high}

pub near_low : (n w : ℕ) → n ≤ 2147483647 → w ≤ n → true ≡ within n (signed w)
unfolding within
near_low n w h k = sym (ap (within n) (signed_low {w = w} (omega arith)) ∙ le-leb w n k)

pub near_high : (n w : ℕ) → n ≤ 2147483647 → n < w → w < 2 ^ 32 → ltb (4294967295 - n) w ≡ within n (signed w)
unfolding within
near_high n w h k l = by (halves w)
  where
    by_test : (t : Bool) → ltb (4294967295 - n) w ≡ t → ltb (4294967295 - n) w ≡ ltb (2 ^ 32 - suc w) n
    by_test true e = let d = ltb-true (4294967295 - n) w e in e ∙ sym (lt-ltb (2 ^ 32 - suc w) n (omega arith))
    by_test false e = let d = ltb-false (4294967295 - n) w e in e ∙ sym (le-ltb (2 ^ 32 - suc w) n (omega arith))

    by : (w < 2 ^ 31) ⊎ (2 ^ 31 ≤ w) → ltb (4294967295 - n) w ≡ within n (signed w)
    by (inl s) = le-ltb (4294967295 - n) w (omega arith) ∙ sym (ap (within n) (signed_low {w = w} s) ∙ lt-leb w n k)
    by (inr s) = by_test (ltb (4294967295 - n) w) refl ∙ sym (ap (within n) (signed_high {w = w} s))

pub below_zero : (n : ℕ) (z : ℤ) → le_z (pos 0) z ≡ false → false ≡ inside n z
unfolding inside
below_zero n (pos i) h = absurd (false≢true (sym h ∙ le-leb 0 i (omega arith)))
below_zero n (negsuc i) h = refl

pub from_zero : (n : ℕ) (z : ℤ) → le_z (pos 0) z ≡ true → lt_z z (pos n) ≡ inside n z
unfolding inside
from_zero n (pos i) h = refl
from_zero n (negsuc i) h = absurd (false≢true h)
