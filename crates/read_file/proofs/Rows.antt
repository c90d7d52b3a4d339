-- The arrays and the records of the derivation, one after another: what is left of the test from each place on.
use Prim.Native.Nat.{ℕ, suc, ◌+◌, ◌<◌, ◌≤◌}
use mathlib.Core.Path.{◌≡◌, refl, sym, ap, ◌∙◌}
use mathlib.Core.Bool.{Bool, true, false, ◌&&◌}
use mathlib.Core.List.{List}
use native.Mathlib.Omega.{arith}
use lib.Dec.{leb}
use lib.ListN.{length, get_or, drop, drop_of_length-le}
use borrow.Author.Tests.{le-leb, lt-leb}
use Rattle.numbers.specs.Result.{ok, stop, need, ◌>>=◌}
use Rattle.numbers.proofs.Rows.{drop_there}
use Rattle.kernel.specs.File.{Rec, Kernel, nothing, input, output, only, length_of}
use Rattle.kernel.specs.Reading.{fault, array_fits, arrays_fit, rule_fits, rules_fit}

-- ---- arrays

module _ (rs : List Rec) (i : ℕ) (h : i < length rs) (ins outs : ℕ) where
  abbrev array_here : Rec
  array_here = get_or rs i nothing

  abbrev ins_then : ℕ
  ins_then = ins + only input length_of array_here

  abbrev outs_then : ℕ
  outs_then = outs + only output length_of array_here

  by_tests : (a b c : Bool) → array_fits array_here ≡ a → leb ins_then 8192 ≡ b → leb outs_then 8192 ≡ c
      → arrays_fit i ins outs (drop i rs) ≡ (need (fault 3 3 i) (a && b && c) >>= λ _. arrays_fit (i + 1) ins_then outs_then (drop (i + 1) rs))
  unfolding arrays_fit
  by_tests a b c x y z =
      let e : suc i ≡ i + 1 = omega arith in
      ap (arrays_fit i ins outs) (drop_there rs i nothing h)
      ∙ (λ j. need (fault 3 3 i) (x j && y j && z j) >>= λ _. arrays_fit (e j) ins_then outs_then (drop (i + 1) rs))

  pub array_unfit : array_fits array_here ≡ false → arrays_fit i ins outs (drop i rs) ≡ stop (fault 3 3 i)
  unfolding need ◌>>=◌
  array_unfit x = by_tests false (leb ins_then 8192) (leb outs_then 8192) x refl refl

  pub inputs_long : array_fits array_here ≡ true → 8192 < ins_then → arrays_fit i ins outs (drop i rs) ≡ stop (fault 3 3 i)
  unfolding need ◌>>=◌
  inputs_long x y = by_tests true false (leb outs_then 8192) x (lt-leb ins_then 8192 y) refl

  pub outputs_long : array_fits array_here ≡ true → ins_then ≤ 8192 → 8192 < outs_then → arrays_fit i ins outs (drop i rs) ≡ stop (fault 3 3 i)
  unfolding need ◌>>=◌
  outputs_long x y z = by_tests true true false x (le-leb ins_then 8192 y) (lt-leb outs_then 8192 z)

  pub array_fine : array_fits array_here ≡ true → ins_then ≤ 8192 → outs_then ≤ 8192
      → arrays_fit (i + 1) ins_then outs_then (drop (i + 1) rs) ≡ arrays_fit i ins outs (drop i rs)
  unfolding need ◌>>=◌
  array_fine x y z = sym (by_tests true true true x (le-leb ins_then 8192 y) (le-leb outs_then 8192 z))

pub arrays_over : (rs : List Rec) (i ins outs : ℕ) → length rs ≤ i → arrays_fit i ins outs (drop i rs) ≡ ok tt
unfolding arrays_fit
arrays_over rs i ins outs h = ap (arrays_fit i ins outs) (drop_of_length-le rs {i = i} h)

-- ---- records of the derivation

module _ (K : Kernel) (rs : List Rec) (i : ℕ) (h : i < length rs) where
  by_test : (a : Bool) → rule_fits K (get_or rs i nothing) ≡ a → rules_fit K i (drop i rs) ≡ (need (fault 3 6 i) a >>= λ _. rules_fit K (i + 1) (drop (i + 1) rs))
  unfolding rules_fit
  by_test a x =
      let e : suc i ≡ i + 1 = omega arith in
      ap (rules_fit K i) (drop_there rs i nothing h)
      ∙ (λ j. need (fault 3 6 i) (x j) >>= λ _. rules_fit K (e j) (drop (i + 1) rs))

  pub rule_unfit : rule_fits K (get_or rs i nothing) ≡ false → rules_fit K i (drop i rs) ≡ stop (fault 3 6 i)
  unfolding need ◌>>=◌
  rule_unfit x = by_test false x

  pub rule_fine : rule_fits K (get_or rs i nothing) ≡ true → rules_fit K (i + 1) (drop (i + 1) rs) ≡ rules_fit K i (drop i rs)
  unfolding need ◌>>=◌
  rule_fine x = sym (by_test true x)

pub rules_over : (K : Kernel) (rs : List Rec) (i : ℕ) → length rs ≤ i → rules_fit K i (drop i rs) ≡ ok tt
unfolding rules_fit
rules_over K rs i h = ap (rules_fit K i) (drop_of_length-le rs {i = i} h)
