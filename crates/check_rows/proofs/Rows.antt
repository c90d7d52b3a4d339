-- Hold rows in order: row after row, and as a part of the derivation.
use Prim.Native.Nat.{ℕ, zero, suc, ◌+◌, ◌≤◌, ◌<◌}
use mathlib.Core.Path.{◌≡◌, refl, sym, ap, ap₂, ◌∙◌}
use mathlib.Core.Bool.{Bool, ◌&&◌}
use mathlib.Core.List.{List, [], ◌∷◌}
use native.Mathlib.Omega.{arith}
use native.Mathlib.Nat.{le_refl}
use lib.Dec.{eqb, ltb}
use native.Mathlib.Decide.{dec_lt}
use borrow.Author.Tests.{lt-ltb, le-ltb}
use Rattle.std.specs.List.{list_all, range_with_len}
use lib.ListN.{length, get_or, take, drop, drop_of_length-le}
use lib.Seq.{take-nil, drop-drop}
use Rattle.numbers.proofs.Rows.{drop_there}
use Rattle.forms.specs.Form.{around}
use Rattle.kernel.specs.File.{Rec, form, nothing, Kernel}
use Rattle.kernel.specs.Derivation.{Place, loops, row_count, hold_rows}
use Rattle.kernel.specs.Check.{in_order, rows_fit}
use Rattle.check_rows.specs.View.{rows_fit_from}

-- one row
abbrev pub row : (code level m : ℕ) → Rec → Bool
row code level m r = eqb r.code code && eqb r.p m && around level (form r)

-- ---- row after row, from the m-th on

module _ (code level : ℕ) (rs : List Rec) (from count : ℕ) where
  abbrev pub stands : ℕ → Bool
  stands m = ltb (from + m) count && row code level m (get_or rs (from + m) nothing)

  pub in_order_by : length rs ≡ count → (n m : ℕ) → list_all stands (range_with_len m n) ≡ in_order code level m n (drop (from + m) rs)
  unfolding in_order
  in_order_by e zero m = refl
  in_order_by e (suc n) m = ap (λ b. stands m && b) (in_order_by e n (m + 1)) ∙ by (dec_lt (from + m) (length rs))
    where
      by : Dec (from + m < length rs) → stands m && in_order code level (m + 1) n (drop (from + (m + 1)) rs) ≡ in_order code level m (suc n) (drop (from + m) rs)
      by (yes h) =
          let f : m + 1 ≡ suc m = omega arith in
          let g : from + (m + 1) ≡ from + m + 1 = omega arith in
          ap (λ b. b && row code level m (get_or rs (from + m) nothing) && in_order code level (m + 1) n (drop (from + (m + 1)) rs)) (lt-ltb _ _ (omega (arith, e, h)))
          ∙ (λ i. row code level m (get_or rs (from + m) nothing) && in_order code level (f i) n (drop (g i) rs))
          ∙ ap (in_order code level m (suc n)) (sym (drop_there rs (from + m) nothing h))
      by (no h) =
          let past : length rs ≤ from + m = omega arith in
          ap (λ b. b && row code level m (get_or rs (from + m) nothing) && in_order code level (m + 1) n (drop (from + (m + 1)) rs)) (le-ltb _ _ (omega (arith, e, past)))
          ∙ ap (in_order code level m (suc n)) (sym (drop_of_length-le rs {i = from + m} past))

-- ---- a part of the derivation

in_order_take : (code level m n k : ℕ) (rs : List Rec) → n ≤ k → in_order code level m n (take k rs) ≡ in_order code level m n rs
unfolding in_order
in_order_take code level m zero k rs h = refl
in_order_take code level m (suc n) zero rs h = absurd (omega arith)
in_order_take code level m (suc n) (suc k) [] h = refl
in_order_take code level m (suc n) (suc k) (r ∷ rs) h = ap (λ t. row code level m r && t) (in_order_take code level (suc m) n k rs (omega arith))

pub drop_take : {A : Type 0} (a b : ℕ) (xs : List A) → drop a (take (a + b) xs) ≡ take b (drop a xs)
drop_take zero b xs =
    let e : 0 + b ≡ b = omega arith in
    ap (λ n. take n xs) e
drop_take (suc a) b [] =
    let e : suc a + b ≡ suc (a + b) = omega arith in
    ap (λ n. drop (suc a) (take n [])) e ∙ sym (take-nil b)
drop_take (suc a) b (x ∷ xs) =
    let e : suc a + b ≡ suc (a + b) = omega arith in
    ap (λ n. drop (suc a) (take n (x ∷ xs))) e ∙ drop_take a b xs

module _ (K : Kernel) (c : Place) where
  rows_after : (level : ℕ) → rows_fit K level (hold_rows K c) ≡ rows_fit_from level (suc c.rule) (length K.arrays) K.buffers K.derivation
  unfolding rows_fit hold_rows row_count
  rows_after level =
      let a = length K.arrays in
      let b = K.buffers in
      let rs = drop (suc c.rule) K.derivation in
      ap₂ ◌&&◌ (in_order_take 11 level 0 a (a + b) rs (omega arith))
      (ap (in_order 12 level 0 b) (drop_take a b rs) ∙ in_order_take 12 level 0 b b (drop a rs) (le_refl b) ∙ ap (in_order 12 level 0 b) (drop-drop a (suc c.rule) K.derivation))

  pub for_rows : (rs : List Rec) (arrays buffers rule level : ℕ) → K.derivation ≡ rs → length K.arrays ≡ arrays → K.buffers ≡ buffers → c.rule ≡ rule → length (loops c.opened) ≡ level
      → rows_fit_from (level + 1) (rule + 1) arrays buffers rs ≡ rows_fit K (suc (length (loops c.opened))) (hold_rows K c)
  for_rows rs arrays buffers rule level d a b r l =
      let r' : suc c.rule ≡ rule + 1 = omega arith in
      let l' : suc (length (loops c.opened)) ≡ level + 1 = omega arith in
      sym (rows_after (suc (length (loops c.opened))) ∙ (λ i. rows_fit_from (l' i) (r' i) (a i) (b i) (d i)))
