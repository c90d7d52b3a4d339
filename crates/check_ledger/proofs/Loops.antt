-- Loops over rows of which the first n cells count, seen through a function: a test of two rows cell by cell, and a row written cell by cell.
use Prim.Native.Nat.{ℕ, ◌+◌, ◌≤◌, ◌<◌}
use mathlib.Core.Path.{◌≡◌, refl, sym, ap, ◌∙◌}
use mathlib.Core.Bool.{Bool, true, false, ◌&&◌}
use mathlib.Core.List.{List, [], ◌∷◌, ◌++◌, map, map-append}
use native.Mathlib.Omega.{arith}
use native.Mathlib.Numerals.{add-one}
use lib.ListN.{length, get_or, set, take, length-map}
use lib.Seq.{take-suc, take-suc-set, length-take-le}
use denote.Param.Members.{Mut}
use Rattle.std.proofs.Common.{Option, Bor, Iter}
use Rattle.std.specs.declared.iter.Zip.{Zip}
use Rattle.std.specs.Slice.Iter.{iter_rest}
use Rattle.std.specs.Iterator.{YieldsThen}
use Rattle.std.specs.Iterator.Adapters.{zip_first, zip_second}
use Rattle.std.specs.Option.{MatchOption}
use Rattle.std.specs.Fn.{Called}
use Rattle.std.specs.List.{list_all, zip, FoldsTo}
use Rattle.std.proofs.iter.Yields.{fronts}
use Rattle.std.proofs.lemmas.Iterator.{zips, YieldsList-from_slice, YieldsList-from_zip}
use Rattle.std.proofs.lemmas.Iterator.Search.{all_from_yields_List}
use Rattle.numbers.specs.Lists.{alike}
use Rattle.numbers.proofs.Rows.{test_goes_on, test_fails, test_passes}

-- as long as what counts
pub long_view : {A B : Type 0} (v : A → B) (n : ℕ) (p : List A) → n ≤ length p → length (map v (take n p)) ≡ n
long_view v n p l = length-map (take n p) v ∙ length-take-le n p l

-- ---- two rows of one length, tested in pairs: cell by cell, from the first on

pub zipped : {A B C : Type 0} (t : B → C → Bool) {D : Type 0} (v : A → B) (w : D → C) (xs : List A) (ys : List D) → length xs ≡ length ys → list_all (λ p. t (v p.0) (w p.1)) (zip xs ys) ≡ alike t (map v xs) (map w ys)
zipped t v w [] [] e = sym (test_passes t [] [] 0 (omega arith) (omega arith) refl)
zipped t v w [] (y ∷ ys) e = absurd (omega arith)
zipped t v w (x ∷ xs) [] e = absurd (omega arith)
zipped {A} {B} {C} t {D} v w (x ∷ xs) (y ∷ ys) e = by (t (v x) (w y)) refl (zipped t v w xs ys (omega arith))
  where
    others : Bool
    others = list_all (λ p. t (v p.0) (w p.1)) (zip xs ys)

    by : (b : Bool) → t (v x) (w y) ≡ b → others ≡ alike t (map v xs) (map w ys) → t (v x) (w y) && others ≡ alike t (v x ∷ map v xs) (w y ∷ map w ys)
    by true q rest =
        ap (λ b. b && others) q
        ∙ rest
        ∙ sym (test_goes_on t (v x ∷ map v xs) (w y ∷ map w ys) 0 (v x) (w y) (omega arith) (omega arith) refl q)
    by false q rest =
        ap (λ b. b && others) q ∙ sym (test_fails t (v x ∷ map v xs) (w y ∷ map w ys) 0 (v x) (w y) (omega arith) (omega arith) refl q)

-- the chain that does so: `all` over both rows at once
pub alike_by_all : {A B C D F : Type 0} {g : Mut F ((Bor A × Bor D) × Unit {0}) Bool} {f : F} {r : Bool} (s u : Zip (Iter A) (Iter D)) (t : B → C → Bool) (v : A → B) (w : D → C) (xs : List A) (ys : List D)
    → length xs ≡ length ys → iter_rest (zip_first s) ≡ xs → iter_rest (zip_second s) ≡ ys
    → (ps : List (Bor A × Bor D)) × (o : Option (Bor A × Bor D)) × (j : F) × YieldsThen (zips fronts fronts) s ps o u × FoldsTo (λ p x q. Called g p (x, tt) true q) f ps j
    × MatchOption o (r ≡ true) (λ x. (r ≡ false) × ((h : F) × Called g j (x, tt) false h))
    → ((x : Bor A × Bor D) (b : Bool) (q : F) → Called g f (x, tt) b q → (q ≡ f) × (b ≡ t (v x.0.now) (w x.1.now))) → r ≡ alike t (map v xs) (map w ys)
alike_by_all s u t v w xs ys e a b ran k =
    all_from_yields_List (λ p. t (v p.0) (w p.1)) u _ _ ran (YieldsList-from_zip {s = s} (YieldsList-from_slice xs a) (YieldsList-from_slice ys b)) k ∙ zipped t v w xs ys e

-- ---- a row written: its first i cells are seen as the first i of a row that grows

pub record Written {A B : Type 0} (v : A → B) (want : ℕ → List B) (n i : ℕ) (r : List A) : Type 0 where
  pub in_time : i ≤ n
  pub so_far : map v (take i r) ≡ want i

pub written_starts : {A B : Type 0} {v : A → B} {want : ℕ → List B} {n : ℕ} {r : List A} → [] ≡ want 0 → Written v want n 0 r
written_starts e = record { in_time = omega arith; so_far = e }

-- the first i + 1 cells
pub view_more : {A B : Type 0} (v : A → B) (p : List A) (i : ℕ) (d : A) → i < length p → map v (take (i + 1) p) ≡ map v (take i p) ++ v (get_or p i d) ∷ []
view_more v p i d h = ap (λ j. map v (take j p)) (add-one i) ∙ ap (map v) (take-suc p i d h) ∙ map-append v (take i p) (get_or p i d ∷ [])

module _ {A B : Type 0} {v : A → B} {want : ℕ → List B} {n i : ℕ} {r : List A} (W : Written v want n i r) where
  pub written_more : (x : A) → i < n → i < length r → want (i + 1) ≡ want i ++ v x ∷ [] → Written v want n (i + 1) (set r i x)
  written_more x h l e =
      record {
        in_time = omega arith;
        so_far =
            ap (λ j. map v (take j (set r i x))) (add-one i)
            ∙ ap (map v) (take-suc-set r i x l)
            ∙ map-append v (take i r) (x ∷ [])
            ∙ ap (λ l. l ++ v x ∷ []) W.so_far
            ∙ sym e;
      }
