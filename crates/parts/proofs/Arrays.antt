-- The arrays of a file, one after another: what stands at each, what reading has found of it, and what stands past the last.
use Prim.Native.Nat.{ℕ, zero, suc, ◌^◌, ◌<◌, ◌≤◌}
use mathlib.Core.Path.{◌≡◌, refl, sym, ap, subst, ◌∙◌}
use mathlib.Core.List.{List, [], ◌∷◌}
use native.Mathlib.Omega.{arith}
use lib.ListN.{get_or, take, drop, drop_of_length-le}
use Rattle.numbers.specs.Bounds.{Small}
use Rattle.numbers.specs.Words.{words}
use Rattle.kernel.specs.File.{Rec, record_of, nothing, Kernel, first_of, step_of, array}
use Rattle.kernel.specs.Reading.{records}
use Rattle.kernel.specs.Guarantees.{ArrayFits, All}
use Rattle.kernel.proofs.Readable.{all_at, fitting, length_records}
use Rattle.parts.specs.declared.Measure.{Measure}
use Rattle.parts.specs.declared.Measure.TheVariants.{Cells, Items}
use Rattle.parts.specs.declared.ArrayTable.{ArrayTable}
use Rattle.parts.specs.Arrays.{arrays_of, array_at, HasArray, Arrays, measure}
use Rattle.parts.proofs.Records.{records_at, records_past}

-- what a table of arrays stands for
pub arrays : (t : ArrayTable) → Arrays t.file.now t.count
arrays t = record { few = t.few; there = t.there; fit = fitting (arrays_of t.file.now t.count) t.fit }

-- ---- array i of the n of a file

module _ (file : List ℕ) (n i : ℕ) (h : i < n) where
  pub array_is : get_or (arrays_of file n) i nothing ≡ array_at file i
  array_is = records_at (words file) 3 n i h

  pub array_as : (K : Kernel) → K.arrays ≡ arrays_of file n → array_at file i ≡ array K i
  unfolding array
  array_as K k = sym (ap (λ l. get_or l i nothing) k ∙ array_is)

  module _ (a : Arrays file n) where
    pub array_there : HasArray file i
    array_there = omega (arith, a.there)

    pub few_arrays : i < 8
    few_arrays = omega (arith, a.few)

    pub array_fits : ArrayFits (array_at file i)
    array_fits = subst ArrayFits array_is (all_at ArrayFits (arrays_of file n) nothing a.fit i (omega (arith, length_records n (drop 3 (words file)))))

    pub first_small : Small (2 ^ 12) (first_of (array_at file i))
    first_small = record { abs = omega (arith, array_fits.first_inside, array_fits.short) }

    pub step_small : Small (2 ^ 12) (step_of (array_at file i))
    step_small = record { abs = array_fits.step_small }

-- ---- past the last

module _ (file : List ℕ) (n i : ℕ) (h : n ≤ i) where
  pub arrays_over : drop i (arrays_of file n) ≡ []
  arrays_over = drop_of_length-le (arrays_of file n) {i = i} (omega (arith, length_records n (drop 3 (words file))))

  pub array_past : get_or (arrays_of file n) i nothing ≡ nothing
  array_past = records_past (drop 3 (words file)) n i h

-- ---- the first i arrays

pub first_records : (i n : ℕ) (ws : List ℕ) → i ≤ n → records i ws ≡ take i (records n ws)
unfolding records
first_records zero n ws h = refl
first_records (suc i) zero ws h = absurd (omega arith)
first_records (suc i) (suc n) ws h = ap (λ rs. record_of (take 8 ws) ∷ rs) (first_records i n (drop 8 ws) (omega arith))

pub all_first : (P : Rec → Type 0) (i : ℕ) (rs : List Rec) → All P rs → All P (take i rs)
all_first P zero rs a = tt
all_first P (suc i) [] a = tt
all_first P (suc i) (r ∷ rs) a = (a.0, all_first P i rs a.1)

pub fewer : {file : List ℕ} {n : ℕ} (i : ℕ) → i ≤ n → Arrays file n → Arrays file i
fewer {file} {n} i h a = record {
  few = omega (arith, a.few);
  there = omega (arith, a.there);
  fit = rw (first_records i n (drop 3 (words file)) h) (all_first ArrayFits i (arrays_of file n) a.fit);
}

-- ---- measures

pub measure_nothing : (m : Measure) → measure m nothing ≡ 0
unfolding measure
measure_nothing Cells = refl
measure_nothing Items = refl

pub measure_few : (m : Measure) {a : Rec} → ArrayFits a → measure m a ≤ 4096
unfolding measure
measure_few Cells f = f.short
measure_few Items f = omega (arith, f.short, f.counted)
