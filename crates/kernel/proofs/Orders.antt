-- The items of an order lie inside the array and are distinct: the indices go evenly from the first to the last, which both lie inside. How many
-- cells a side's orders name.
use mathlib.Core.Path.{◌≡◌, refl, sym, ap, ◌∙◌}
use mathlib.Core.Bool.{Bool, true, false, cond}
use mathlib.Core.List.{List, [], ◌∷◌, map}
use Prim.Native.Nat.{ℕ, zero, suc, ◌+◌, ◌-◌, ◌*◌, ◌<◌, ◌≤◌}
use native.Mathlib.Omega.{arith}
use native.Mathlib.Nat.{mul-le-mul_left, mul-lt-mul_of_pos_left}
use lib.Dec.{ltb}
use lib.ListN.{length, length-append}
use lib.IntN.{ℤ, pos, negsuc, neg_ℤ, nat_abs, ◌+ℤ◌, ◌*ℤ◌, +ℤ_comm, pos-ne-negsuc}
use borrow.Author.Tests.{ltb-false, le-ltb}
use Rattle.numbers.specs.Lists.{sum}
use Rattle.numbers.specs.Words.{inside}
use Rattle.numbers.proofs.Ring.{+ℤ_cancel}
use Rattle.numbers.proofs.Order.{abs_mul}
use Rattle.numbers.proofs.Tests.{inside_index}
use Rattle.kernel.specs.File.{Rec, only, length_of, first_of, count_of, step_of, index}
use Rattle.kernel.specs.Memory.{listed, cells}
use Rattle.kernel.specs.Guarantees.{ArrayFits, Inside}

inside_at : (n : ℕ) (z : ℤ) → inside n z ≡ true → Inside n z
inside_at n z h = let (i, e, l) = inside_index n z h in record { at = i; is = e; below = l }

-- ---- a difference of naturals that is an index

less : (q x : ℕ) → x ≤ q → pos q +ℤ neg_ℤ (pos x) ≡ pos (q - x)
less q zero h = ap pos (omega arith)
less q (suc y) h = ap (λ b. cond b (negsuc (suc y - suc q)) (pos (q - suc y))) (le-ltb q (suc y) h)

not_past_zero : (q x : ℕ) {i : ℕ} → pos q +ℤ neg_ℤ (pos x) ≡ pos i → x ≤ q
not_past_zero q zero e = omega arith
not_past_zero q (suc y) {i} e = by (ltb q (suc y)) (ltb-false q (suc y)) e
  where
    by : (b : Bool) → (b ≡ false → suc y ≤ q) → cond b (negsuc (suc y - suc q)) (pos (q - suc y)) ≡ pos i → suc y ≤ q
    by true f e = absurd (pos-ne-negsuc i (suc y - suc q) (sym e))
    by false f e = f refl

-- ---- between the first index and the last

on_the_way : (n q m last : ℕ) (s : ℤ) → q < n → m ≤ last → Inside n (pos q +ℤ s *ℤ pos last) → Inside n (pos q +ℤ s *ℤ pos m)
on_the_way n q m last (pos t) h l k = record { at = q + t * m; is = refl; below = up (ap nat_abs k.is) k.below (mul-le-mul_left t l) }
  where
    up : q + t * last ≡ k.at → k.at < n → t * m ≤ t * last → q + t * m < n
    up e a b = omega arith
on_the_way n q m last (negsuc t) h l k =
    let far : suc t * last ≤ q = not_past_zero q (suc t * last) k.is in
    let near : suc t * m ≤ suc t * last = mul-le-mul_left (suc t) l in
    record { at = q - suc t * m; is = less q (suc t * m) (omega arith); below = omega arith }

pub item_inside : (a : Rec) → ArrayFits a → (n : ℕ) → n < count_of a → Inside (length_of a) (index a n)
unfolding index
item_inside a f n h =
    on_the_way (length_of a) a.q n (count_of a - 1) (step_of a) f.first_inside (omega arith)
    (inside_at (length_of a) (first_of a +ℤ step_of a *ℤ pos (count_of a - 1)) f.last_inside)

-- ---- no two are equal

apart : (s : ℤ) (n m : ℕ) → (s ≡ pos 0 → ⊥) → n < m → s *ℤ pos m ≡ s *ℤ pos n → ⊥
apart s n m moves l e = not_equal (nat_abs s) (some_step s moves) (sym (abs_mul s (pos m)) ∙ ap nat_abs e ∙ abs_mul s (pos n))
  where
    some_step : (z : ℤ) → (z ≡ pos 0 → ⊥) → 0 < nat_abs z
    some_step (pos zero) f = absurd (f refl)
    some_step (pos (suc k)) f = omega arith
    some_step (negsuc k) f = omega arith

    not_equal : (t : ℕ) → 0 < t → t * m ≡ t * n → ⊥
    not_equal t p e = omega (arith, mul-lt-mul_of_pos_left {k = t} l p)

pub items_apart : (a : Rec) → ArrayFits a → (n m : ℕ) → n < m → index a m ≡ index a n → ⊥
unfolding index
items_apart a f n m l e =
    apart (step_of a) n m f.moves l
    (+ℤ_cancel (first_of a) (step_of a *ℤ pos m) (step_of a *ℤ pos n)
    (+ℤ_comm (step_of a *ℤ pos m) (first_of a) ∙ e ∙ +ℤ_comm (first_of a) (step_of a *ℤ pos n)))

-- ---- how many cells

pub listed_length : (f : ℕ → ℕ) (m n : ℕ) → length (listed f m n) ≡ n
unfolding listed
listed_length f m zero = refl
listed_length f m (suc n) = ap suc (listed_length f (suc m) n)

pub cells_length : (side b : ℕ) (rs : List Rec) → length (cells side b rs) ≡ sum (map (only side count_of) rs)
unfolding cells sum
cells_length side b [] = refl
cells_length side b (a ∷ rs) =
    length-append (listed (λ n. b + nat_abs (index a n)) 0 (only side count_of a)) (cells side (b + only side length_of a) rs)
    ∙ omega (arith, listed_length (λ n. b + nat_abs (index a n)) 0 (only side count_of a), cells_length side (b + only side length_of a) rs)
