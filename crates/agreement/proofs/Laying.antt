-- Laying out and putting back tie the two memories: each item of a stream stands for one cell of its array, and no two for the same.
use mathlib.Core.Path.{◌≡◌, refl, sym, ap, subst, ◌∙◌}
use mathlib.Core.Logic.{◌≢◌}
use mathlib.Core.List.{List, [], ◌∷◌, ◌++◌, map}
use Prim.Native.Nat.{ℕ, zero, suc, ◌+◌, ◌<◌, ◌≤◌}
use native.Mathlib.Omega.{arith}
use lib.ListN.{length, get_or, take, set, replicate, get_or-append}
use lib.Seq.{get_or-append-add, set_comm, set-set, set-get_or}
use lib.IntN.{pos, nat_abs}
use Rattle.numbers.specs.Lists.{sum}
use Rattle.numbers.proofs.Rows.{replicate_at}
use Rattle.kernel.specs.File.{Rec, nothing, Kernel, input, output, side_of, only, length_of, count_of, index, array}
use Rattle.kernel.proofs.Sides.{only_on, on_only}
use Rattle.kernel.specs.Machine.{cell}
use Rattle.kernel.specs.Memory.{before, total, listed, cells, laid_out, placed, put_back, layout}
use Rattle.kernel.specs.Guarantees.{ArrayFits, All, Reads}
use Rattle.kernel.proofs.Readable.{all_at}
use Rattle.kernel.proofs.Orders.{item_inside, items_apart, listed_length, cells_length}
use Rattle.agreement.proofs.Turns.{map_at}
use Rattle.agreement.proofs.Steps.{Tied}

-- ---- rows of distinct places

pub data Distinct : List ℕ → Type 0 where
  none_twice : Distinct []
  not_again : {x : ℕ} {l : List ℕ} → ((k : ℕ) → k < length l → get_or l k 0 ≡ x → ⊥) → Distinct l → Distinct (x ∷ l)

-- every place of a row
pub record Every (P : ℕ → Type 0) (l : List ℕ) : Type 0 where
  pub at : (k : ℕ) → k < length l → P (get_or l k 0)

every_tail : {P : ℕ → Type 0} {x : ℕ} {l : List ℕ} → Every P (x ∷ l) → Every P l
every_tail h = record { at = λ k z. h.at (suc k) (omega arith) }

every_front : {P : ℕ → Type 0} {x : ℕ} {l : List ℕ} → P x → Every P l → Every P (x ∷ l)
every_front {P} {x} {l} p h = record { at = by }
  where
    by : (k : ℕ) → k < length (x ∷ l) → P (get_or (x ∷ l) k 0)
    by zero z = p
    by (suc k) z = h.at k (omega arith)

every_append : {P : ℕ → Type 0} (l m : List ℕ) → Every P l → Every P m → Every P (l ++ m)
every_append [] m h g = g
every_append (x ∷ l) m h g = every_front (h.at 0 (omega arith)) (every_append l m (every_tail h) g)

-- a row below a bound, then one from it on
distinct_append : (b : ℕ) {l m : List ℕ} → Distinct l → Every (λ x. x < b) l → Distinct m → Every (λ x. b ≤ x) m → Distinct (l ++ m)
distinct_append b none_twice low d high = d
distinct_append b {m} (not_again {x} {l} f r) low d high =
    not_again (λ k z e. absurd (apart ((every_append l m (other l f) (later m high)).at k z) e)) (distinct_append b r (every_tail low) d high)
  where
    other : (l : List ℕ) → ((k : ℕ) → k < length l → get_or l k 0 ≡ x → ⊥) → Every (λ y. y ≢ x) l
    other l f = record { at = f }

    later : (m : List ℕ) → Every (λ y. b ≤ y) m → Every (λ y. y ≢ x) m
    later m h = record { at = λ k z e. not_both (low.at 0 (omega arith)) (h.at k z) e }
      where
        not_both : {x y : ℕ} → x < b → b ≤ y → y ≡ x → ⊥
        not_both p q e = omega arith

    apart : {y : ℕ} → y ≢ x → y ≡ x → ⊥
    apart f e = f e

-- ---- listed values

module _ (f : ℕ → ℕ) where
  pub listed_at : (m n k : ℕ) → k < n → get_or (listed f m n) k 0 ≡ f (m + k)
  unfolding listed
  listed_at m zero k h = absurd (omega arith)
  listed_at m (suc n) zero h = ap f (omega arith)
  listed_at m (suc n) (suc k) h = listed_at (suc m) n k (omega arith) ∙ ap f (omega arith)

  listed_every : (P : ℕ → Type 0) (m n : ℕ) → ((k : ℕ) → k < n → P (f (m + k))) → Every P (listed f m n)
  listed_every P m n h = record { at = λ k z. subst P (sym (listed_at m n k (omega (arith, listed_length f m n)))) (h k (omega (arith, listed_length f m n))) }

  listed_distinct : (m n : ℕ) → ((i j : ℕ) → i < j → j < m + n → f j ≡ f i → ⊥) → Distinct (listed f m n)
  unfolding listed
  listed_distinct m zero h = none_twice
  listed_distinct m (suc n) h =
      not_again first
      (listed_distinct (suc m) n (λ i j l g. h i j l (omega arith)))
    where
      first : (k : ℕ) → k < length (listed f (suc m) n) → get_or (listed f (suc m) n) k 0 ≡ f m → ⊥
      first k z e =
          let l : k < n = subst (λ l. k < l) (listed_length f (suc m) n) z in
          h m (suc m + k) (omega arith) (omega arith) (sym (listed_at (suc m) n k l) ∙ e)

-- ---- values put at distinct places

-- a place that the row does not name
placed_other : (cs vs m : List ℕ) (c w : ℕ) → ((k : ℕ) → k < length cs → get_or cs k 0 ≡ c → ⊥) → placed cs vs (set m c w) ≡ set (placed cs vs m) c w
unfolding placed
placed_other [] vs m c w f = refl
placed_other (d ∷ cs) [] m c w f = refl
placed_other (d ∷ cs) (v ∷ vs) m c w f =
    ap (placed cs vs) (set_comm m c d w v (λ e. f 0 (omega arith) (sym e))) ∙ placed_other cs vs (set m d v) c w (λ k z. f (suc k) (omega arith))

-- one value changed, and its place
pub placed_set : {cs : List ℕ} (vs m : List ℕ) (s w : ℕ) → Distinct cs → s < length cs → s < length vs → placed cs (set vs s w) m ≡ set (placed cs vs m) (get_or cs s 0) w
unfolding placed
placed_set vs m s w none_twice h g = absurd (omega arith)
placed_set [] m s w (not_again f r) h g = absurd (omega arith)
placed_set (v ∷ vs) m zero w (not_again {x} {l} f r) h g =
    placed_other l vs m x w f ∙ sym (set-set (placed l vs m) x v w) ∙ ap (λ n. set n x w) (sym (placed_other l vs m x v f))
placed_set (v ∷ vs) m (suc s) w (not_again {x} {l} f r) h g = placed_set vs (set m x v) s w r (omega arith) (omega arith)

-- zeros put into a row of zeros
set_zero : (n c : ℕ) → set {A = ℕ} (replicate n 0) c 0 ≡ replicate n 0
set_zero n c = ap (λ z. set {A = ℕ} (replicate n 0) c z) (sym (replicate_at n c 0)) ∙ set-get_or (replicate n 0) c 0

placed_zeros : (cs : List ℕ) (k n : ℕ) → placed cs (replicate k 0) (replicate n 0) ≡ replicate n 0
unfolding placed
placed_zeros [] k n = refl
placed_zeros (c ∷ cs) zero n = refl
placed_zeros (c ∷ cs) (suc k) n = ap (placed cs (replicate k 0)) (set_zero n c) ∙ placed_zeros cs k n

-- ---- the cells of a side

-- what stands before array q, and all of it, along a row of arrays
abbrev before_in : ℕ → (Rec → ℕ) → List Rec → ℕ → ℕ
before_in side n rs q = sum (map (only side n) (take q rs))

abbrev total_in : ℕ → (Rec → ℕ) → List Rec → ℕ
total_in side n rs = sum (map (only side n) rs)

-- an item's index as a natural number, inside its array
item_cell : (side : ℕ) (a : Rec) → ArrayFits a → (j : ℕ) → j < only side count_of a → (pos (nat_abs (index a j)) ≡ index a j) × (nat_abs (index a j) < only side length_of a)
item_cell side a f j h =
    let own = on_only side count_of a j h in
    let i = item_inside a f j (subst (λ n. j < n) (only_on side count_of a own) h) in (
      ap (λ z. pos (nat_abs z)) i.is ∙ sym i.is,
      subst (λ n. nat_abs (index a j) < n) (sym (only_on side length_of a own)) (subst (λ n. n < length_of a) (sym (ap nat_abs i.is)) i.below),
    )

own_cells : ℕ → ℕ → Rec → List ℕ
own_cells side b a = listed (λ n. b + nat_abs (index a n)) 0 (only side count_of a)

module _ (side : ℕ) where
  own_in : (b : ℕ) (a : Rec) → ArrayFits a → Every (λ c. c < b + only side length_of a) (own_cells side b a)
  unfolding own_cells
  own_in b a f = listed_every (λ n. b + nat_abs (index a n)) _ 0 (only side count_of a) (λ k h.
      let g = (item_cell side a f (0 + k) (omega arith)).1 in omega arith)

  own_from : (b : ℕ) (a : Rec) → Every (λ c. b ≤ c) (own_cells side b a)
  unfolding own_cells
  own_from b a = listed_every (λ n. b + nat_abs (index a n)) _ 0 (only side count_of a) (λ k h. omega arith)

  own_distinct : (b : ℕ) (a : Rec) → ArrayFits a → Distinct (own_cells side b a)
  unfolding own_cells
  own_distinct b a f = listed_distinct (λ n. b + nat_abs (index a n)) 0 (only side count_of a) (λ i j l h e.
      let same : nat_abs (index a j) ≡ nat_abs (index a i) = omega arith in
      items_apart a f i j l (sym (item_cell side a f j (omega arith)).0 ∙ ap pos same ∙ (item_cell side a f i (omega arith)).0))

  cells_from : (b : ℕ) (rs : List Rec) → Every (λ c. b ≤ c) (cells side b rs)
  unfolding cells own_cells
  cells_from b [] = record { at = λ k h. absurd (omega arith) }
  cells_from b (a ∷ rs) = every_append (own_cells side b a) (cells side (b + only side length_of a) rs) (own_from b a)
      (record { at = λ k h. let g = (cells_from (b + only side length_of a) rs).at k h in omega arith })

  cells_distinct : (b : ℕ) (rs : List Rec) → All ArrayFits rs → Distinct (cells side b rs)
  unfolding cells own_cells
  cells_distinct b [] f = none_twice
  cells_distinct b (a ∷ rs) f =
      distinct_append (b + only side length_of a) (own_distinct b a f.0) (own_in b a f.0) (cells_distinct (b + only side length_of a) rs f.1) (cells_from (b + only side length_of a) rs)

  -- where item j of array q stands among the cells, and which cell it is
  cell_there : (rs : List Rec) (q j : ℕ) → q < length rs → j < only side count_of (get_or rs q nothing) → before_in side count_of rs q + j < total_in side count_of rs
  unfolding sum
  cell_there [] q j h g = absurd (omega arith)
  cell_there (a ∷ rs) zero j h g = omega arith
  cell_there (a ∷ rs) (suc q) j h g = let r = cell_there rs q j (omega arith) g in omega arith

  cell_at : (b : ℕ) (rs : List Rec) (q j : ℕ) → q < length rs → j < only side count_of (get_or rs q nothing)
      → get_or (cells side b rs) (before_in side count_of rs q + j) 0 ≡ b + (before_in side length_of rs q + nat_abs (index (get_or rs q nothing) j))
  unfolding cells sum
  cell_at b [] q j h g = absurd (omega arith)
  cell_at b (a ∷ rs) zero j h g =
      ap (λ k. get_or (listed (λ n. b + nat_abs (index a n)) 0 (only side count_of a) ++ cells side (b + only side length_of a) rs) k 0) (none_before j)
      ∙ get_or-append (listed (λ n. b + nat_abs (index a n)) 0 (only side count_of a)) (cells side (b + only side length_of a) rs) 0 j (omega (arith, listed_length (λ n. b + nat_abs (index a n)) 0 (only side count_of a)))
      ∙ listed_at (λ n. b + nat_abs (index a n)) 0 (only side count_of a) j g
      ∙ ap (λ k. b + nat_abs (index a k)) (none_before j) ∙ omega arith
    where
      none_before : (j : ℕ) → 0 + j ≡ j
      none_before j = omega arith
  cell_at b (a ∷ rs) (suc q) j h g =
      ap (λ k. get_or (listed (λ n. b + nat_abs (index a n)) 0 (only side count_of a) ++ cells side (b + only side length_of a) rs) k 0)
      (regrouped (only side count_of a) (before_in side count_of rs q) j (length (listed (λ n. b + nat_abs (index a n)) 0 (only side count_of a))) (listed_length (λ n. b + nat_abs (index a n)) 0 (only side count_of a)))
      ∙ get_or-append-add (listed (λ n. b + nat_abs (index a n)) 0 (only side count_of a)) (cells side (b + only side length_of a) rs) (before_in side count_of rs q + j) 0
      ∙ cell_at (b + only side length_of a) rs q j (omega arith) g ∙ omega arith
    where
      regrouped : (n m j k : ℕ) → k ≡ n → (n + m) + j ≡ k + (m + j)
      regrouped n m j k e = omega arith

-- ---- the two runs' memories

module _ (K : Kernel) (reads : Reads K) where
  fits_array : (q : ℕ) → q < length K.arrays → ArrayFits (array K q)
  unfolding array
  fits_array q h = all_at ArrayFits K.arrays nothing reads.arrays q h

  -- item j of array q, on its side: its place among the items, and its cell
  module _ (side q j i : ℕ) (there : q < length K.arrays) (own : side_of (array K q) ≡ side) (counted : j < count_of (array K q)) (at : index (array K q) j ≡ pos i) where
    counted_own : j < only side count_of (array K q)
    counted_own = subst (λ n. j < n) (sym (only_on side count_of (array K q) own)) counted

    item_there : before side count_of K q + j < total side count_of K
    unfolding before total array
    item_there = cell_there side K.arrays q j there counted_own

    item_at : get_or (cells side 0 K.arrays) (before side count_of K q + j) 0 ≡ before side length_of K q + i
    unfolding before array
    item_at = cell_at side 0 K.arrays q j there counted_own ∙ (let nat : nat_abs (index (get_or K.arrays q nothing) j) ≡ i = ap nat_abs at in omega arith)

  total_cells : (side : ℕ) → length (cells side 0 K.arrays) ≡ total side count_of K
  unfolding total
  total_cells side = cells_length side 0 K.arrays

  pub tied : (m : List ℕ) → Tied K (layout length_of K m) (layout count_of K (laid_out K m))
  unfolding layout cell laid_out put_back
  tied m = record {
    sizes = λ q. refl;
    counts = λ q. refl;
    items = λ q j h g. item_inside (array K q) (fits_array q h) j g;
    laid = λ q j i h own g at.
        ap (λ side. get_or (map (λ c. get_or m c 0) (cells input 0 K.arrays)) (before side count_of K q + j) 0) own
        ∙ map_at (λ c. get_or m c 0) (cells input 0 K.arrays) (before input count_of K q + j) 0 0 (subst (λ n. before input count_of K q + j < n) (sym (total_cells input)) (item_there input q j i h own g at))
        ∙ ap (λ c. get_or m c 0) (item_at input q j i h own g at)
        ∙ ap (λ side. get_or m (before side length_of K q + i) 0) (sym own);
    placed = λ q j i w n h own g at long.
        ap (λ side. placed (cells output 0 K.arrays) (set n (before side count_of K q + j) w) (replicate (total output length_of K) 0)) own
        ∙ placed_set n (replicate (total output length_of K) 0) (before output count_of K q + j) w (cells_distinct output 0 K.arrays reads.arrays)
        (subst (λ k. before output count_of K q + j < k) (sym (total_cells output)) (item_there output q j i h own g at))
        (subst (λ k. before output count_of K q + j < k) (sym long) (item_there output q j i h own g at))
        ∙ ap (λ c. set (placed (cells output 0 K.arrays) n (replicate (total output length_of K) 0)) c w) (item_at output q j i h own g at)
        ∙ ap (λ side. set (placed (cells output 0 K.arrays) n (replicate (total output length_of K) 0)) (before side length_of K q + i) w) (sym own);
  }

  -- nothing written is nothing stored
  pub back_zeros : (n : ℕ) → put_back K (replicate n 0) ≡ replicate (total output length_of K) 0
  unfolding put_back
  back_zeros n = placed_zeros (cells output 0 K.arrays) n (total output length_of K)
