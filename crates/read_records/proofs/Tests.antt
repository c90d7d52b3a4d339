-- Tests of rows and codes, by the library's names and by the definition's.
use Prim.Native.Nat.{ℕ, zero, suc}
use mathlib.Core.Path.{◌≡◌, refl, sym, ap, ap₂, subst, ◌∙◌}
use mathlib.Core.Bool.{Bool, true, false, ◌&&◌, ◌||◌}
use mathlib.Core.List.{List, [], ◌∷◌}
use native.Mathlib.Omega.{arith}
use lib.Dec.{T, eqb}
use borrow.Author.Tests.{ne_eqb, le-leb, lt-leb}
use Rattle.std.specs.Prelude.{Some, is_ok}
use Rattle.std.specs.List.{list_all}
use Rattle.std.specs.Option.{option_eq}
use Rattle.numbers.specs.Lists.{every}
use Rattle.numbers.specs.Words.{between}
use Rattle.kernel.specs.declared.codes.Side.{Side}
use Rattle.kernel.specs.declared.codes.Side.TheVariants.{Input, Output}
use Rattle.kernel.specs.contracts.codes.SidePartialEq.TheImpl.{eq-value}
use Rattle.kernel.specs.Named.{side, sided, ruled}
use Rattle.parts.specs.Arrays.{side_there}

pub all_every : (p : ℕ → Bool) (xs : List ℕ) → list_all p xs ≡ every p xs
unfolding every
all_every p [] = refl
all_every p (x ∷ xs) = ap (λ b. p x && b) (all_every p xs)

zero_is : (w : ℕ) → eqb w 0 ≡ eqb 0 w
zero_is zero = refl
zero_is (suc w) = ne_eqb (suc w) 0 (λ e. omega arith) ∙ sym (ne_eqb 0 (suc w) (λ e. omega arith))

pub all_zeros : (xs : List ℕ) → list_all (λ w. eqb w 0) xs ≡ every (eqb 0) xs
unfolding every
all_zeros [] = refl
all_zeros (x ∷ xs) = ap₂ ◌&&◌ (zero_is x) (all_zeros xs)

pub sided_ok : (w : ℕ) → is_ok (sided w) ≡ (eqb w 1 || eqb w 2)
unfolding sided
sided_ok zero = refl
sided_ok (suc zero) = refl
sided_ok (suc (suc zero)) = refl
sided_ok (suc (suc (suc w))) = sym (ap₂ ◌||◌ (ne_eqb (suc (suc (suc w))) 1 (λ e. omega arith)) (ne_eqb (suc (suc (suc w))) 2 (λ e. omega arith)))

pub ruled_ok : (w : ℕ) → is_ok (ruled w) ≡ between 1 10 w
unfolding ruled between
ruled_ok zero = refl
ruled_ok (suc zero) = refl
ruled_ok (suc (suc zero)) = refl
ruled_ok (suc (suc (suc zero))) = refl
ruled_ok (suc (suc (suc (suc zero)))) = refl
ruled_ok (suc (suc (suc (suc (suc zero))))) = refl
ruled_ok (suc (suc (suc (suc (suc (suc zero)))))) = refl
ruled_ok (suc (suc (suc (suc (suc (suc (suc zero))))))) = refl
ruled_ok (suc (suc (suc (suc (suc (suc (suc (suc zero)))))))) = refl
ruled_ok (suc (suc (suc (suc (suc (suc (suc (suc (suc zero))))))))) = refl
ruled_ok (suc (suc (suc (suc (suc (suc (suc (suc (suc (suc zero)))))))))) = refl
ruled_ok (suc (suc (suc (suc (suc (suc (suc (suc (suc (suc (suc w))))))))))) =
    let n = suc (suc (suc (suc (suc (suc (suc (suc (suc (suc (suc w)))))))))) in
    sym (ap₂ ◌&&◌ (le-leb 1 n (omega arith)) (lt-leb n 10 (omega arith)))

-- a side by its number
pub on_side : (w : ℕ) (s : Side) → option_eq eq-value.it (side_there (sided w)) (Some s) ≡ eqb w (side s)
unfolding sided side side_there
on_side zero Input = refl
on_side zero Output = refl
on_side (suc zero) Input = refl
on_side (suc zero) Output = refl
on_side (suc (suc zero)) Input = refl
on_side (suc (suc zero)) Output = refl
on_side (suc (suc (suc w))) Input = sym (ne_eqb (suc (suc (suc w))) 1 (λ e. omega arith))
on_side (suc (suc (suc w))) Output = sym (ne_eqb (suc (suc (suc w))) 2 (λ e. omega arith))

-- ---- tests one after another

module _ {value before : Bool} (this : Bool) where
  pub by_then : value ≡ this → before ≡ true → value ≡ (before && this)
  by_then v e = v ∙ ap (λ b. b && this) (sym e)

  pub by_else : value ≡ before → before ≡ false → value ≡ (before && this)
  by_else v e = v ∙ e ∙ ap (λ b. b && this) (sym e)

pub both_true : (a b : Bool) → (a && b) ≡ true → (a ≡ true) × (b ≡ true)
both_true true b h = (refl, h)
both_true false b h = absurd (subst T (sym h) tt)

pub eight_regrouped : (a b c d e f g h : Bool) → (((((((a && b) && c) && d) && e) && f) && g) && h) ≡ (a && b && c && d && e && f && g && h)
eight_regrouped false b c d e f g h = refl
eight_regrouped true false c d e f g h = refl
eight_regrouped true true false d e f g h = refl
eight_regrouped true true true false e f g h = refl
eight_regrouped true true true true false f g h = refl
eight_regrouped true true true true true false g h = refl
eight_regrouped true true true true true true g h = refl
