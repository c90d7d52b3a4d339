-- The arrays of a file, one after another: what those of a side add up to, from each on, and where an array begins in its memory.
use Prim.Native.Nat.{ℕ, zero, suc, ◌+◌, ◌*◌, ◌<◌, ◌≤◌}
use mathlib.Core.Path.{◌≡◌, refl, sym, ap, subst, ◌∙◌}
use mathlib.Core.Bool.{Bool, true, false, cond}
use mathlib.Core.List.{List, [], ◌∷◌, map}
use mathlib.Core.Logic.{◌⊎◌, inl, inr}
use native.Mathlib.Omega.{arith}
use native.Mathlib.Decide.{dec_lt}
use lib.Dec.{eqb}
use borrow.Author.Tests.{ne_eqb}
use lib.ListN.{length, get_or, take, drop}
use Rattle.std.specs.Prelude.{Option, Some, None}
use Rattle.std.specs.Option.{option_eq}
use Rattle.numbers.specs.Words.{words}
use Rattle.numbers.specs.Lists.{sum}
use Rattle.kernel.specs.contracts.codes.SidePartialEq.TheImpl.{eq-value}
use Rattle.kernel.specs.declared.codes.Side.{Side}
use Rattle.kernel.specs.declared.codes.Side.TheVariants.{Input, Output}
use Rattle.kernel.specs.Named.{side, sided}
use Rattle.kernel.specs.File.{Rec, nothing, side_of, on, only}
use Rattle.kernel.specs.Machine.{State}
use Rattle.kernel.specs.Memory.{moved}
use Rattle.kernel.specs.Guarantees.{ArrayFits, All}
use Rattle.kernel.proofs.Readable.{length_records}
use Rattle.kernel.proofs.Sides.{side_nothing, only_0}
use Rattle.parts.specs.declared.Measure.{Measure}
use Rattle.parts.specs.declared.ArrayTable.{ArrayTable}
use Rattle.parts.specs.Arrays.{array_at, arrays_of, side_there, measure, Arrays}
use Rattle.parts.proofs.Records.{record_next}
use Rattle.parts.proofs.Arrays.{array_is, array_fits, arrays_over, array_past, first_records, all_first, measure_few}
use Rattle.memory.specs.Sizes.{declared, total, base, on_side}

-- ---- the side of an array, as the code finds it

compared : (w : ℕ) (s : Side) → option_eq eq-value.it (side_there (sided w)) (Some s) ≡ eqb w (side s)
unfolding sided side_there side
compared zero Input = refl
compared zero Output = refl
compared (suc zero) Input = refl
compared (suc zero) Output = refl
compared (suc (suc zero)) Input = refl
compared (suc (suc zero)) Output = refl
compared (suc (suc (suc n))) Input = sym (ne_eqb (suc (suc (suc n))) 1 (λ e. omega arith))
compared (suc (suc (suc n))) Output = sym (ne_eqb (suc (suc (suc n))) 2 (λ e. omega arith))

-- there is a side just where there is an array
side_is : (w : ℕ) (s : Side) → side_there (sided w) ≡ Some s → w ≡ side s
unfolding sided side_there side
side_is zero s e = cc
side_is (suc zero) Input e = refl
side_is (suc zero) Output e = cc
side_is (suc (suc zero)) Input e = cc
side_is (suc (suc zero)) Output e = refl
side_is (suc (suc (suc n))) s e = cc

no_side : (w : ℕ) → (w ≡ 1) ⊎ (w ≡ 2) → side_there (sided w) ≡ None → ⊥
unfolding sided side_there
no_side w (inl e) n = let z = ap (λ w. side_there (sided w)) e in cc
no_side w (inr e) n = let z = ap (λ w. side_there (sided w)) e in cc

no_nothing : (s : Side) → side_of nothing ≡ side s → ⊥
unfolding side_of side
no_nothing Input e = omega arith
no_nothing Output e = omega arith

module _ (file : List ℕ) (n i : ℕ) where
  pub there_side : (s : Side) → side_there (sided (get_or (arrays_of file n) i nothing).code) ≡ Some s → (i < n) × (side s ≡ side_of (get_or (arrays_of file n) i nothing))
  unfolding side_of
  there_side s e = by (dec_lt i n)
    where
      by : Dec (i < n) → (i < n) × (side s ≡ side_of (get_or (arrays_of file n) i nothing))
      by (yes h) = (h, sym (side_is (get_or (arrays_of file n) i nothing).code s e))
      by (no h) = absurd (no_nothing s (ap side_of (sym (array_past file n i (omega arith))) ∙ side_is (get_or (arrays_of file n) i nothing).code s e))

  pub past_side : Arrays file n → side_there (sided (get_or (arrays_of file n) i nothing).code) ≡ None → n ≤ i
  unfolding side_of
  past_side a e = by (dec_lt i n)
    where
      by : Dec (i < n) → n ≤ i
      by (no h) = omega arith
      by (yes h) = absurd (no_side (get_or (arrays_of file n) i nothing).code (subst (λ r. (r.code ≡ 1) ⊎ (r.code ≡ 2)) (sym (array_is file n i h)) (array_fits file n i h a).side) e)

-- by what the code has compared
pub found : (t : ArrayTable) (i : ℕ) → i < t.count → (s : Side) {of : Option Side} {b : Bool} → b ≡ option_eq eq-value.it of (Some s)
    → of ≡ side_there (sided (get_or (declared t) i nothing).code) → on (side s) (array_at t.file.now i) ≡ b
unfolding on side_of
found t i h s e f =
    sym (e ∙ ap (λ of. option_eq eq-value.it of (Some s)) f ∙ ap (λ r. option_eq eq-value.it (side_there (sided r.code)) (Some s)) (array_is t.file.now t.count i h) ∙ compared (array_at t.file.now i).code s)

module _ (side : ℕ) (n : Rec → ℕ) (a : Rec) where
  pub only_here : on side a ≡ true → only side n a ≡ n a
  unfolding only
  only_here e = ap (λ t. cond t (n a) 0) e

  pub only_other : on side a ≡ false → only side n a ≡ 0
  unfolding only
  only_other e = ap (λ t. cond t (n a) 0) e

  only_most : only side n a ≤ n a
  unfolding only
  only_most = by (on side a)
    where
      by : (t : Bool) → cond t (n a) 0 ≤ n a
      by true = omega arith
      by false = omega arith

-- ---- what those of a side add up to

module _ (side : ℕ) where
  -- by the numbers of the arrays, or by the arrays
  counted : (f : Rec → ℕ) (v : ℕ → ℕ) (n : ℕ) (rs : List Rec) → ((j : ℕ) → j < length rs → v (n + j) ≡ f (get_or rs j nothing)) → on_side side v n rs ≡ sum (map (only side f) rs)
  unfolding on_side sum only
  counted f v n [] h = refl
  counted f v n (r ∷ rs) h =
      let e : n + 0 ≡ n = omega arith in
      let first : v n ≡ f r = ap v (sym e) ∙ h 0 (omega arith) in
      let rest = counted f v (suc n) rs (λ j l. let d : suc n + j ≡ n + suc j = omega arith in ap v d ∙ h (suc j) (omega arith)) in
      λ k. cond (on side r) (first k) 0 + rest k

  pub places_moved : (s : State) (n : ℕ) (rs : List Rec) → on_side side (λ q. get_or s.places q 0) n rs ≡ moved side n rs s
  unfolding on_side moved
  places_moved s n [] = refl
  places_moved s n (r ∷ rs) = ap (λ k. only side (λ _. get_or s.places n 0) r + k) (places_moved s (suc n) rs)

  total_most : (m : Measure) (rs : List Rec) → All ArrayFits rs → total side m rs ≤ 4096 * length rs
  unfolding sum
  total_most m [] a = omega arith
  total_most m (r ∷ rs) a = omega (arith, only_most side (measure m) r, measure_few m a.0, total_most m rs a.1)

  module _ (file : List ℕ) (n : ℕ) where
    pub counted_total : (m : Measure) → on_side side (λ j. measure m (array_at file j)) 0 (arrays_of file n) ≡ total side m (arrays_of file n)
    counted_total m =
        counted (measure m) (λ j. measure m (array_at file j)) 0 (arrays_of file n) (λ j h. let z : 0 + j ≡ j = omega arith in ap (λ k. measure m (array_at file k)) z ∙ ap (measure m) (sym (array_is file n j (omega (arith, length_records n (drop 3 (words file)))))))

    pub total_few : Arrays file n → (m : Measure) → total side m (arrays_of file n) ≤ 4096 * n
    total_few a m = omega (arith, total_most m (arrays_of file n) a.fit, length_records n (drop 3 (words file)))

    module _ (v : ℕ → ℕ) (i : ℕ) where
      pub side_next : i < n → on_side side v i (drop i (arrays_of file n)) ≡ only side (λ _. v i) (array_at file i) + on_side side v (i + 1) (drop (i + 1) (arrays_of file n))
      unfolding on_side
      side_next h =
          let e : suc i ≡ i + 1 = omega arith in
          ap (on_side side v i) (record_next (words file) 3 n i h)
          ∙ ap (λ k. only side (λ _. v i) (array_at file i) + on_side side v k (drop (i + 1) (arrays_of file n))) e

      pub side_over : n ≤ i → on_side side v i (drop i (arrays_of file n)) ≡ 0
      unfolding on_side
      side_over h = ap (on_side side v i) (arrays_over file n i h)

-- ---- where an array begins

-- what stands before it in the memory of its side
pub base_is : (file : List ℕ) (n i : ℕ) → i < n → (m : Measure) (side : ℕ) → side ≡ side_of (get_or (arrays_of file n) i nothing) → total side m (arrays_of file i) ≡ base m (arrays_of file n) i
base_is file n i h m side e = λ j. total (e j) m (first_records i n (drop 3 (words file)) (omega arith) j)

on_no_side : (m : Measure) (rs : List Rec) → All ArrayFits rs → total 0 m rs ≡ 0
unfolding sum
on_no_side m [] a = refl
on_no_side m (r ∷ rs) a = omega (arith, only_0 (measure m) r a.0, on_no_side m rs a.1)

pub base_past : (file : List ℕ) (n i : ℕ) → n ≤ i → Arrays file n → (m : Measure) → base m (arrays_of file n) i ≡ 0
base_past file n i h a m =
    ap (λ r. total (side_of r) m (take i (arrays_of file n))) (array_past file n i h)
    ∙ ap (λ side. total side m (take i (arrays_of file n))) side_nothing
    ∙ on_no_side m (take i (arrays_of file n)) (all_first ArrayFits i (arrays_of file n) a.fit)
