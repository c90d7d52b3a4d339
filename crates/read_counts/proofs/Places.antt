-- What a count is at a place of a file.
use Prim.Native.Nat.{ℕ, ◌+◌, ◌/◌, ◌<◌, ◌≤◌}
use mathlib.Core.Path.{◌≡◌, refl, sym, ap, ◌∙◌}
use mathlib.Core.Bool.{Bool, true, false, cond}
use mathlib.Core.List.{List}
use native.Mathlib.Omega.{arith}
use lib.Dec.{ltb}
use lib.ListN.{length, drop, drop_of_length-le}
use borrow.Author.Tests.{ltb-true, ltb-false}
use Rattle.std.specs.Prelude.{Option, Some, None}
use Rattle.numbers.specs.Result.{Result, ok, stop, ◌>>=◌, need}
use Rattle.numbers.specs.Words.{words, between}
use Rattle.numbers.specs.Areas.{word}
use Rattle.numbers.proofs.Areas.{words_length}
use Rattle.kernel.specs.Reading.{Fault, fault, count}
use Rattle.numbers.proofs.Rows.{drop_there}
use Rattle.read_counts.specs.View.{number}

-- ---- a count

-- a count at n that stands in its range
abbrev pub ranged : (s low high n : ℕ) → List ℕ → Result Fault (ℕ × List ℕ)
ranged s low high n ws = do
  _ ← need (fault 2 s 0) (between low high n)
  ok (n, ws)

module _ (file : List ℕ) (p s low high : ℕ) where
  count_there : p < length file / 4 → count s low high (drop p (words file)) ≡ ranged s low high (word file p) (drop (p + 1) (words file))
  unfolding count word
  count_there h = ap (count s low high) (drop_there (words file) p 0 (omega (arith, words_length file)))

  count_past : length file / 4 ≤ p → count s low high (drop p (words file)) ≡ stop (fault 1 0 0)
  unfolding count
  count_past h = ap (count s low high) (drop_of_length-le (words file) {i = p} (omega (arith, words_length file)))

  -- the number that is there, by any other name
  there : Option ℕ → ℕ
  there (Some n) = n
  there None = 0

  pub count_number : (n : ℕ) → Some n ≡ number file p → count s low high (drop p (words file)) ≡ ranged s low high n (drop (p + 1) (words file))
  unfolding number there
  count_number n e = by (ltb p (length file / 4)) refl
    where
      by : (t : Bool) → ltb p (length file / 4) ≡ t → count s low high (drop p (words file)) ≡ ranged s low high n (drop (p + 1) (words file))
      by true t =
          count_there (ltb-true p (length file / 4) t)
          ∙ ap (λ n. ranged s low high n (drop (p + 1) (words file))) (sym (ap there (e ∙ ap (λ t. cond t (Some (word file p)) None) t)))
      by false t =
          let clash : Some n ≡ None = e ∙ ap (λ t. cond t (Some (word file p)) None) t in
          let z : ◌≡◌ {A = ℕ} 0 1 = cc in
          absurd (omega arith)

  pub count_end : None ≡ number file p → count s low high (drop p (words file)) ≡ stop (fault 1 0 0)
  unfolding number
  count_end e = by (ltb p (length file / 4)) refl
    where
      by : (t : Bool) → ltb p (length file / 4) ≡ t → count s low high (drop p (words file)) ≡ stop (fault 1 0 0)
      by true t =
          let clash : None ≡ Some (word file p) = e ∙ ap (λ t. cond t (Some (word file p)) None) t in
          let z : ◌≡◌ {A = ℕ} 0 1 = cc in
          absurd (omega arith)
      by false t = count_past (ltb-false p (length file / 4) t)
