-- Every form of a ledger changed by one function; and the change of a level's counter, with its bounds.
use Prim.Native.Nat.{ℕ, zero, suc, ◌+◌, ◌*◌, ◌^◌, ◌<◌}
use mathlib.Core.Path.{◌≡◌, refl, sym, ap, subst, ◌∙◌}
use mathlib.Core.Bool.{Bool, ◌&&◌}
use mathlib.Core.List.{List, [], ◌∷◌, ◌++◌, map, map-append}
use native.Mathlib.Omega.{arith}
use lib.ListN.{length, get_or, set, take}
use lib.IntN.{pos}
use Rattle.std.proofs.Common.{Bor, Iter}
use Rattle.std.specs.declared.iter.Zip.{Zip}
use Rattle.std.specs.Slice.Iter.{iter_rest}
use Rattle.std.specs.Iterator.{CallableAtEachTurn}
use Rattle.std.specs.Iterator.Adapters.{zip_first, zip_second}
use Rattle.std.proofs.iter.Yields.{fronts}
use Rattle.std.proofs.lemmas.Iterator.{zips, YieldsList-from_slice, YieldsList-from_zip}
use Rattle.std.proofs.lemmas.Iterator.Adapters.{serves_from_places}
use Rattle.std.specs.List.{zip}
use Rattle.numbers.specs.Lists.{alike}
use Rattle.numbers.specs.Bounds.{Small}
use Rattle.numbers.proofs.Signs.{small_add, small_mul, small_zero}
use Rattle.forms.specs.Form as F
use Rattle.forms.specs.Code.{form, Within}
use Rattle.forms.specs.declared.Form.{Form}
use Rattle.kernel.specs.Ledger as L
use Rattle.check_ledger.specs.declared.Ledger.{Ledger}
use Rattle.check_ledger.specs.View.{ledger, positions_of, held_of}
use Rattle.check_ledger.proofs.Rows.{all_set}
use Rattle.check_ledger.proofs.Bounds.{within_wider, within_seen}
use Rattle.check_ledger.proofs.Loops.{Written, view_more, written_more}
use Rattle.check_rows.specs.Counters.{amount}
use Rattle.check_rows.specs.Changes.{counted}
use Rattle.check_rows.specs.declared.change.Counter.{Counter}
use Rattle.check_rows.specs.declared.change.Counter.TheVariants.{At, By}

-- ---- one function

module _ (change : F.Form → F.Form) where
  pub each_right : (a b : ℕ) (l r : Ledger) → positions_of a r ≡ map change (positions_of a l) → held_of b r ≡ map (L.each_held change) (held_of b l) → ledger a b r ≡ L.each change (ledger a b l)
  unfolding ledger L.each
  each_right a b l r e f = λ i. record { positions = e i; buffers = f i }

-- the first i cells of a row changed
module _ {A B : Type 0} (change : B → B) (v : A → B) where
  abbrev pub first_changed : List A → ℕ → List B
  first_changed p i = map change (map v (take i p))

  pub changed_more : (p : List A) {r : List A} {n i : ℕ} (d x : A) → i < length p → i < n → i < length r → v x ≡ change (v (get_or p i d)) → Written v (first_changed p) n i r → Written v (first_changed p) n (i + 1) (set r i x)
  changed_more p {i = i} d x l h g e W =
      written_more W x h g
      (ap (map change) (view_more v p i d l) ∙ map-append change (map v (take i p)) (v (get_or p i d) ∷ []) ∙ ap (λ y. first_changed p i ++ y ∷ []) (sym e))

-- a test of a row so changed is another test of the row
pub changed_alike : {A B : Type 0} (t : A → B → Bool) (g : A → A) (xs : List A) (ys : List B) → alike (λ x. t (g x)) xs ys ≡ alike t (map g xs) ys
unfolding alike
changed_alike t g [] [] = refl
changed_alike t g [] (y ∷ ys) = refl
changed_alike t g (x ∷ xs) [] = refl
changed_alike t g (x ∷ xs) (y ∷ ys) = ap (λ b. t (g x) y && b) (changed_alike t g xs ys)

-- what all cells of a row have, the first of each pair of the row's first n with another's has
pub first_has : {A B : Type 0} (P : A → Type 0) (d : A) (n : ℕ) (xs : List A) (ys : List B) → ((k : ℕ) → P (get_or xs k d)) → (x : A × B) (k : ℕ) → k < length (zip (take n xs) ys) → x ≡ get_or (zip (take n xs) ys) k x → P x.0
first_has P d zero xs ys h x k l e = absurd (omega arith)
first_has P d (suc n) [] ys h x k l e = absurd (omega arith)
first_has P d (suc n) (y ∷ xs) [] h x k l e = absurd (omega arith)
first_has P d (suc n) (y ∷ xs) (z ∷ ys) h x zero l e = subst P (sym (ap (λ p. p.0) e)) (h 0)
first_has P d (suc n) (y ∷ xs) (z ∷ ys) h x (suc k) l e = first_has P d n xs ys (λ j. h (suc j)) x k (omega arith) e

-- so it may be asked of each pair
pub pairs_asked : {A D F : Type 0} {R : F → Bor A × Bor D → F → Type 0} {Q : F → Bor A × Bor D → Type 0} {f : F} (s : Zip (Iter A) (Iter D)) (P : A → Type 0) (d : A) (n : ℕ) (xs : List A) (ys : List D)
    → iter_rest (zip_first s) ≡ take n xs → iter_rest (zip_second s) ≡ ys → ((k : ℕ) → P (get_or xs k d))
    → ((x : Bor A × Bor D) (q : F) → R f x q → q ≡ f) → ((x : Bor A × Bor D) → P x.0.now → Q f x) → CallableAtEachTurn (zips fronts fronts) R Q s f
pairs_asked s P d n xs ys a b h stays asks =
    serves_from_places (YieldsList-from_zip {s = s} (YieldsList-from_slice (take n xs) a) (YieldsList-from_slice ys b)) stays (λ x k l e. asks x (first_has P d n xs ys h (x.0.now, x.1.now) k l e))

-- ---- the counter of a level changed

change_within : {K X C : ℕ} {f r : Form} (level : ℕ) (counter : Counter) → form r ≡ counted counter level (form f) → Within K X f → Small C (amount counter) → Within (K + X * C) X r
unfolding counted F.put_at F.moved_by F.coefficient
change_within {X = X} {f = f} level (At c) e h s =
    within_seen e (small_add h.k_small (small_mul (h.x_small level) s))
    (all_set (Small X) (form f).x level (pos 0) (pos 0) small_zero h.x_small small_zero)
change_within level (By step) e h s = within_seen e (small_add h.k_small (small_mul (h.x_small level) s)) h.x_small

-- what a match on a counter knows it to be
module _ {counter is : Counter} (e : counter ≡ is) (s : Small (2 ^ 16) (amount counter)) where
  pub amount_small : Small (2 ^ 16) (amount is)
  amount_small = subst (λ k. Small (2 ^ 16) (amount k)) e s

  pub change_right : {f r : Form} (level : ℕ) → Within (2 ^ 20) (2 ^ 20) f → form r ≡ counted is level (form f) → (form r ≡ counted counter level (form f)) × Within (2 ^ 37) (2 ^ 20) r
  change_right {f} level h g =
      let e = g ∙ sym (ap (λ k. counted k level (form f)) e) in
      (e, within_wider (change_within level counter e h s) (omega arith) (omega arith))
