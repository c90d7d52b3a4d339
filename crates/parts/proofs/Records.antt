-- Rows of numbers from a place on: what stands there and what follows, and the records of a part.
use Prim.Native.Nat.{ℕ, zero, suc, ◌+◌, ◌*◌, ◌<◌, ◌≤◌}
use mathlib.Core.Path.{◌≡◌, refl, sym, ap, ◌∙◌}
use mathlib.Core.List.{List, [], ◌∷◌}
use native.Mathlib.Omega.{arith}
use native.Mathlib.Nat.{add-zero}
use lib.ListN.{length, get_or, take, drop, length-drop, get_or-eq_default}
use lib.Seq.{get_or-take, get_or-drop, drop-drop, length-take-le}
use Rattle.numbers.specs.Words.{words}
use Rattle.numbers.specs.Areas.{word}
use Rattle.numbers.proofs.Areas.{words_length}
use Rattle.numbers.proofs.Rows.{drop_there}
use Rattle.kernel.specs.File.{Rec, record_of, numbers, nothing}
use Rattle.kernel.specs.Reading.{records}
use Rattle.kernel.proofs.Readable.{length_records}
use Rattle.parts.specs.declared.Part.{Part}
use Rattle.parts.specs.Parts.{records_in, Lies}

-- ---- a record

-- its eight numbers
eight : (ws : List ℕ) → 8 ≤ length ws
    → take 8 ws ≡ get_or ws 0 0 ∷ get_or ws 1 0 ∷ get_or ws 2 0 ∷ get_or ws 3 0 ∷ get_or ws 4 0 ∷ get_or ws 5 0 ∷ get_or ws 6 0 ∷ get_or ws 7 0 ∷ []
eight [] h = absurd (omega arith)
eight (a ∷ []) h = absurd (omega arith)
eight (a ∷ b ∷ []) h = absurd (omega arith)
eight (a ∷ b ∷ c ∷ []) h = absurd (omega arith)
eight (a ∷ b ∷ c ∷ d ∷ []) h = absurd (omega arith)
eight (a ∷ b ∷ c ∷ d ∷ e ∷ []) h = absurd (omega arith)
eight (a ∷ b ∷ c ∷ d ∷ e ∷ f ∷ []) h = absurd (omega arith)
eight (a ∷ b ∷ c ∷ d ∷ e ∷ f ∷ g ∷ []) h = absurd (omega arith)
eight (a ∷ b ∷ c ∷ d ∷ e ∷ f ∷ g ∷ i ∷ ws) h = refl

pub record_there : (ws : List ℕ) (p : ℕ) → p + 8 ≤ length ws
    → record { code = get_or ws p 0; p = get_or ws (p + 1) 0; q = get_or ws (p + 2) 0; k = get_or ws (p + 3) 0; x = get_or ws (p + 4) 0 ∷ get_or ws (p + 5) 0 ∷ get_or ws (p + 6) 0 ∷ get_or ws (p + 7) 0 ∷ [] }
    ≡ record_of (take 8 (drop p ws))
unfolding record_of
record_there ws p h = sym (ap record_of (eight (drop p ws) (simp length-drop (omega arith))) ∙ simp (get_or-drop, add-zero) refl)

numbers_of : (a b c d e f g h : ℕ) → numbers (record_of (a ∷ b ∷ c ∷ d ∷ e ∷ f ∷ g ∷ h ∷ [])) ≡ a ∷ b ∷ c ∷ d ∷ e ∷ f ∷ g ∷ h ∷ []
unfolding numbers record_of
numbers_of a b c d e f g h = refl

pub numbers_there : (ws : List ℕ) (p : ℕ) → p + 8 ≤ length ws → numbers (record_of (take 8 (drop p ws))) ≡ take 8 (drop p ws)
numbers_there ws p h =
    let ns = drop p ws in
    let e = eight ns (simp length-drop (omega arith)) in
    ap (λ ns. numbers (record_of ns)) e
    ∙ numbers_of (get_or ns 0 0) (get_or ns 1 0) (get_or ns 2 0) (get_or ns 3 0) (get_or ns 4 0) (get_or ns 5 0) (get_or ns 6 0) (get_or ns 7 0)
    ∙ sym e

module _ (ws : List ℕ) (p : ℕ) (h : p + 8 ≤ length ws) where
  pub numbers_8 : length (numbers (record_of (take 8 (drop p ws)))) ≡ 8
  numbers_8 = ap length (numbers_there ws p h) ∙ length-take-le 8 (drop p ws) (simp length-drop (omega arith))

  pub number_there : (i : ℕ) → i < 8 → get_or (numbers (record_of (take 8 (drop p ws)))) i 0 ≡ get_or ws (p + i) 0
  number_there i l = ap (λ ns. get_or ns i 0) (numbers_there ws p h) ∙ get_or-take 8 (drop p ws) i 0 l ∙ get_or-drop p ws i 0

-- ---- the records of a part

records_from : (n : ℕ) (ws : List ℕ) (i : ℕ) → i < n → get_or (records n ws) i nothing ≡ record_of (take 8 (drop (8 * i) ws))
unfolding records
records_from zero ws i h = absurd (omega arith)
records_from (suc n) ws zero h = refl
records_from (suc n) ws (suc i) h =
    let e : 8 + 8 * i ≡ 8 * suc i = omega arith in
    records_from n (drop 8 ws) i (omega arith) ∙ ap (λ ns. record_of (take 8 ns)) (drop-drop (8 * i) 8 ws ∙ ap (λ k. drop k ws) e)

-- record i of the part that begins at p
pub records_at : (ws : List ℕ) (p n i : ℕ) → i < n → get_or (records n (drop p ws)) i nothing ≡ record_of (take 8 (drop (p + 8 * i) ws))
records_at ws p n i h = records_from n (drop p ws) i h ∙ ap (λ ns. record_of (take 8 ns)) (drop-drop (8 * i) p ws)

pub records_past : (ws : List ℕ) (n i : ℕ) → n ≤ i → get_or (records n ws) i nothing ≡ nothing
records_past ws n i h = get_or-eq_default (records n ws) nothing {n = i} (omega (arith, length_records n ws))

-- record i of the part that begins at p, and what follows
pub record_next : (ws : List ℕ) (p count i : ℕ) → i < count
    → drop i (records count (drop p ws)) ≡ record_of (take 8 (drop (p + 8 * i) ws)) ∷ drop (i + 1) (records count (drop p ws))
record_next ws p count i h =
    drop_there (records count (drop p ws)) i nothing (omega (arith, length_records count (drop p ws)))
    ∙ ap (λ r. r ∷ drop (i + 1) (records count (drop p ws))) (records_at ws p count i h)

-- its code
pub code_at : (ws : List ℕ) (p n i : ℕ) → i < n → p + 8 * n ≤ length ws → (get_or (records n (drop p ws)) i nothing).code ≡ get_or ws (p + 8 * i) 0
code_at ws p n i h l = ap (λ (r : Rec). r.code) (records_at ws p n i h ∙ sym (record_there ws (p + 8 * i) (omega arith)))

-- ---- a part of a file

module _ (file : List ℕ) (part : Part) where
  pub count_is : length (records_in file part) ≡ part.count
  count_is = length_records part.count (drop part.at (words file))

  pub lies_wider : {m n : ℕ} → m ≤ n → Lies m file part → Lies n file part
  lies_wider h l = record { inside = l.inside; near = l.near; few = omega (arith, h, l.few) }

  -- the code of record i is the first of its numbers
  pub code_there : {most : ℕ} → Lies most file part → (i : ℕ) → i < part.count → word file (part.at + 8 * i) ≡ (get_or (records_in file part) i nothing).code
  unfolding word
  code_there l i h = sym (code_at (words file) part.at part.count i h (omega (arith, l.inside, words_length file)))
