-- What carrying items one after another makes of an area: array by array, laid out, and put back.
use Prim.Native.Nat.{ℕ, suc, ◌+◌, ◌*◌, ◌-◌, ◌<◌, ◌≤◌}
use mathlib.Core.Path.{◌≡◌, refl, sym, ap, subst, ◌∙◌}
use mathlib.Core.Bool.{true, false}
use mathlib.Core.List.{List, [], ◌∷◌, ◌++◌, map, append-nil, append_assoc}
use native.Mathlib.Omega.{arith}
use native.Mathlib.Nat.{add-zero}
use lib.ListN.{length, get_or, set, drop, replicate, length-append}
use lib.Seq.{drop-cons}
use lib.IntN.{ℤ, pos, nat_abs, ◌+ℤ◌, ◌*ℤ◌}
use mir.Syntax.{w64}
use mir.Val.{to_z, SFits}
use Rattle.numbers.specs.Bounds.{Small}
use Rattle.numbers.proofs.Signs.{back, small_add, small_mul, sum_back, product_back, back_product, fits, as_it_is}
use Rattle.numbers.specs.Words.{words, bytes}
use Rattle.numbers.specs.Areas.{word}
use Rattle.numbers.proofs.Areas.{words_length, put_bytes, put_next, zeros_bytes}
use Rattle.kernel.specs.File.{Rec, on, only, length_of, first_of, count_of, step_of, index}
use Rattle.kernel.specs.Memory.{listed, cells, placed}
use Rattle.kernel.specs.Guarantees.{ArrayFits}
use Rattle.kernel.proofs.Orders.{item_inside, listed_length}
use Rattle.memory.specs.declared.Order.{Order}
use Rattle.memory.specs.Items.{nth, Ordered, carried_one, carried, cell}
use Rattle.memory.proofs.Rows.{only_here, only_other}

-- ---- rows of cells

module _ (f : ℕ → ℕ) where
  listed_next : (i n : ℕ) → i < n → listed f i (n - i) ≡ f i ∷ listed f (i + 1) (n - (i + 1))
  unfolding listed
  listed_next i n h =
      let e : n - i ≡ suc (n - (i + 1)) = omega arith in
      let d : suc i ≡ i + 1 = omega arith in
      ap (listed f i) e ∙ ap (λ k. f i ∷ listed f k (n - (i + 1))) d

  listed_over : (i n : ℕ) → n ≤ i → listed f i (n - i) ≡ []
  unfolding listed
  listed_over i n h = let e : n - i ≡ 0 = omega arith in ap (listed f i) e

-- ---- the cell of an item

-- in 64 bits nothing is lost
module _ (first step : ℤ) (i : ℕ) (o : Ordered first step i) where
  item_small : Small 4096 (pos i)
  item_small = record { abs = omega (arith, o.few) }

  pub product_fits : SFits w64 (back step *ℤ to_z w64 i)
  product_fits = fits (product_back o.step_small item_small) tt

  pub sum_fits : SFits w64 (back first +ℤ back (back step *ℤ to_z w64 i))
  sum_fits = fits (sum_back o.first_small (product_back o.step_small item_small)) tt

  pub nth_back : back (back first +ℤ back (back step *ℤ to_z w64 i)) ≡ nth first step i
  nth_back =
      (λ k. back (as_it_is o.first_small tt k +ℤ back_product o.step_small item_small tt tt tt k))
      ∙ as_it_is (small_add o.first_small (small_mul o.step_small item_small)) tt

module _ (a : Rec) (first step : ℤ) (e : first ≡ first_of a) (d : step ≡ step_of a) where
  pub nth_is : (i : ℕ) → nth first step i ≡ index a i
  unfolding index
  nth_is i = λ k. nth (e k) (d k) i

  pub in_order : ArrayFits a → (i : ℕ) → i < count_of a → Ordered first step i
  in_order f i h =
      let at = item_inside a f i h in
      record {
        first_small = subst (Small 4096) (sym e) (record { abs = omega (arith, f.first_inside, f.short) });
        step_small = subst (Small 4096) (sym d) (record { abs = f.step_small });
        few = omega (arith, f.counted, f.short);
        inside = record { at = at.at; is = nth_is i ∙ at.is; below = omega (arith, at.below, f.short) };
      }

-- ---- one array after another

module _ (side : ℕ) (from : List ℕ) where
  carried_append : (cs ds : List ℕ) (item : ℕ) (to : List ℕ) → carried side item (cs ++ ds) from to ≡ carried side (item + length cs) ds from (carried side item cs from to)
  unfolding carried
  carried_append [] ds item to = ap (λ k. carried side k ds from to) (sym (add-zero item))
  carried_append (c ∷ cs) ds item to =
      let e : suc item + length cs ≡ item + suc (length cs) = omega arith in
      carried_append cs ds (suc item) (carried_one side item c from to)
      ∙ ap (λ k. carried side k ds from (carried side (suc item) cs from (carried_one side item c from to))) e

  -- item i of n is carried, and those that follow are left
  pub items_next : (f : ℕ → ℕ) (item i n cell : ℕ) (to new : List ℕ) → i < n → cell ≡ f i → new ≡ carried_one side (item + i) cell from to
      → carried side (item + (i + 1)) (listed f (i + 1) (n - (i + 1))) from new ≡ carried side (item + i) (listed f i (n - i)) from to
  unfolding carried
  items_next f item i n cell to new h c e =
      let d : item + (i + 1) ≡ suc (item + i) = omega arith in
      (λ k. carried side (d k) (listed f (i + 1) (n - (i + 1))) from ((e ∙ ap (λ c. carried_one side (item + i) c from to) c) k))
      ∙ ap (λ cs. carried side (item + i) cs from to) (sym (listed_next f i n h))

  pub items_over : (f : ℕ → ℕ) (item i n : ℕ) (to : List ℕ) → n ≤ i → to ≡ carried side item (listed f i (n - i)) from to
  unfolding carried
  items_over f item i n to h = ap (λ cs. carried side item cs from to) (sym (listed_over f i n h))

  -- an array's items are carried, and those of the arrays that follow are left
  array_next : (item b count long : ℕ) (a : Rec) (arrays rest : List Rec) (to new : List ℕ) → count ≡ only side count_of a → long ≡ only side length_of a
      → new ≡ carried side item (listed (λ i. b + nat_abs (index a i)) 0 count) from to → arrays ≡ a ∷ rest
      → carried side (item + count) (cells side (b + long) rest) from new ≡ carried side item (cells side b arrays) from to
  unfolding cells
  array_next item b count long a arrays rest to new c l e d =
      let cs = listed (λ i. b + nat_abs (index a i)) 0 count in
      (λ k. carried side (item + sym (listed_length (λ i. b + nat_abs (index a i)) 0 count) k) (cells side (b + l k) rest) from (e k))
      ∙ sym (carried_append cs (cells side (b + only side length_of a) rest) item to)
      ∙ (λ k. carried side item (listed (λ i. b + nat_abs (index a i)) 0 (c k) ++ cells side (b + only side length_of a) rest) from to)
      ∙ ap (λ rs. carried side item (cells side b rs) from to) (sym d)

  module _ (a : Rec) (arrays rest : List Rec) (d : arrays ≡ a ∷ rest) where
    -- of the array that is on the side, its order is carried
    pub order_next : on side a ≡ true → (o : Order) → o.first ≡ first_of a → o.step ≡ step_of a → o.count ≡ count_of a → (long : ℕ) → long ≡ length_of a → (to new : List ℕ)
        → new ≡ carried side o.items (listed (cell o) 0 o.count) from to
        → carried side (o.items + o.count) (cells side (o.cells + long) rest) from new ≡ carried side o.items (cells side o.cells arrays) from to
    order_next h o f s n long l to new e =
        array_next o.items o.cells o.count long a arrays rest to new (n ∙ sym (only_here side count_of a h)) (l ∙ sym (only_here side length_of a h))
        (e ∙ (λ k. carried side o.items (listed (λ i. o.cells + nat_abs (nth_is a o.first o.step f s i k)) 0 o.count) from to)) d

    pub order_other : on side a ≡ false → (item b : ℕ) (to : List ℕ) → carried side item (cells side b rest) from to ≡ carried side item (cells side b arrays) from to
    unfolding carried listed
    order_other h item b to =
        (λ k. carried side (sym (add-zero item) k) (cells side (sym (add-zero b) k) rest) from to)
        ∙ array_next item b 0 0 a arrays rest to to (sym (only_other side count_of a h)) (sym (only_other side length_of a h)) refl d

  pub arrays_over : (item b : ℕ) (arrays : List Rec) (to : List ℕ) → arrays ≡ [] → to ≡ carried side item (cells side b arrays) from to
  unfolding cells carried
  arrays_over item b arrays to e = ap (λ rs. carried side item (cells side b rs) from to) (sym e)

-- ---- laid out: each item is written after those before it, whatever stood there

laid_after : (from cs ws rest : List ℕ) → length rest ≡ 4 * length cs → carried 1 (length ws) cs from (bytes ws ++ rest) ≡ bytes (ws ++ map (λ c. get_or (words from) c 0) cs)
unfolding carried carried_one word
laid_after from [] ws [] h = append-nil (bytes ws) ∙ ap bytes (sym (append-nil ws))
laid_after from [] ws (x ∷ rest) h = absurd (omega arith)
laid_after from (c ∷ cs) ws [] h = absurd (omega arith)
laid_after from (c ∷ cs) ws (x ∷ []) h = absurd (omega arith)
laid_after from (c ∷ cs) ws (x ∷ y ∷ []) h = absurd (omega arith)
laid_after from (c ∷ cs) ws (x ∷ y ∷ z ∷ []) h = absurd (omega arith)
laid_after from (c ∷ cs) ws (x ∷ y ∷ z ∷ u ∷ rest) h =
    let w = get_or (words from) c 0 in
    let e : suc (length ws) ≡ length (ws ++ w ∷ []) = omega (arith, length-append ws (w ∷ [])) in
    (λ i. carried 1 (e i) cs from (put_next ws x y z u rest w i))
    ∙ laid_after from cs (ws ++ w ∷ []) rest (omega arith)
    ∙ ap bytes (append_assoc ws (w ∷ []) (map (λ c. get_or (words from) c 0) cs))

pub laid : (from cs to : List ℕ) → length to ≡ 4 * length cs → carried 1 0 cs from to ≡ bytes (map (λ c. get_or (words from) c 0) cs)
unfolding bytes
laid from cs to h = laid_after from cs [] to h

-- ---- put back: each item at its cell

put_from : (from cs : List ℕ) (item : ℕ) (ws : List ℕ) → item + length cs ≤ length (words from) → carried 2 item cs from (bytes ws) ≡ bytes (placed cs (drop item (words from)) ws)
unfolding carried carried_one word placed
put_from from [] item ws h = refl
put_from from (c ∷ cs) item ws h =
    let w = get_or (words from) item 0 in
    ap (carried 2 (suc item) cs from) (put_bytes ws c w)
    ∙ put_from from cs (suc item) (set ws c w) (omega arith)
    ∙ ap (λ is. bytes (placed (c ∷ cs) is ws)) (sym (drop-cons (words from) item 0 (omega arith)))

-- into a memory of n words that is cleared
pub put_back : (from cs : List ℕ) (n : ℕ) → length from ≡ 4 * length cs → carried 2 0 cs from (replicate (4 * n) 0) ≡ bytes (placed cs (words from) (replicate n 0))
put_back from cs n h = ap (carried 2 0 cs from) (zeros_bytes n) ∙ put_from from cs 0 (replicate n 0) (omega (arith, words_length from))
