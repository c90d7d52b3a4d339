-- Which row of the definition a code meets.
use mathlib.Core.Path.{◌≡◌, refl, sym, ap, ◌∙◌}
use mathlib.Core.Bool.{Bool, true, false, ◌&&◌, ◌||◌}
use mathlib.Core.List.{◌∷◌}
use Prim.Native.Nat.{ℕ}
use lib.Dec.{eqb, ltb}
use lib.ListN.{length, drop}
use borrow.Author.Tests.{ne_eqb}
use Rattle.numbers.specs.Words.{between}
use Rattle.kernel.specs.File.{Rec, Kernel, numbers}
use Rattle.kernel.specs.Reading.{zeros, minus_one, form_fits, rule_fits}

abbrev bare : Rec → Bool
bare r = between 1 10 r.code && zeros (drop 1 (numbers r))

abbrev array_row : ℕ → Rec → Bool
array_row arrays r = ltb r.p arrays && eqb r.q 0 && form_fits r

abbrev buffer_row : ℕ → ℕ → Rec → Bool
buffer_row arrays buffers r = ltb r.p buffers && (eqb r.q minus_one && zeros (r.k ∷ r.x) || ltb r.q arrays && form_fits r)

or_false : (b : Bool) → b ≡ (b || false)
or_false true = refl
or_false false = refl

module _ (K : Kernel) (r : Rec) where
  -- the definition at a code n, the rows of codes 11 and 12 after the tests s and t
  abbrev at_code : ℕ → Bool → Bool → Bool
  at_code n s t =
      between 1 10 n && zeros (drop 1 (numbers r))
      || s && ltb r.p (length K.arrays) && eqb r.q 0 && form_fits r
      || t && ltb r.p K.buffers
      && (eqb r.q minus_one && zeros (r.k ∷ r.x) || ltb r.q (length K.arrays) && form_fits r)

  pub at_11 : (arrays : ℕ) → length K.arrays ≡ arrays → r.code ≡ 11 → array_row arrays r ≡ rule_fits K r
  unfolding rule_fits between
  at_11 arrays a e =
      ap (λ n. array_row n r) (sym a) ∙ or_false (array_row (length K.arrays) r) ∙ sym (ap (λ n. at_code n (eqb n 11) (eqb n 12)) e)

  pub at_12 : (arrays buffers : ℕ) → length K.arrays ≡ arrays → K.buffers ≡ buffers → r.code ≡ 12 → buffer_row arrays buffers r ≡ rule_fits K r
  unfolding rule_fits between
  at_12 arrays buffers a b e = (λ i. buffer_row (sym a i) (sym b i) r) ∙ sym (ap (λ n. at_code n (eqb n 11) (eqb n 12)) e)

  pub at_other : (r.code ≡ 11 → ⊥) → (r.code ≡ 12 → ⊥) → bare r ≡ rule_fits K r
  unfolding rule_fits
  at_other h g = or_false (bare r) ∙ or_false (bare r || false) ∙ sym (λ i. at_code r.code (ne_eqb r.code 11 h i) (ne_eqb r.code 12 g i))
