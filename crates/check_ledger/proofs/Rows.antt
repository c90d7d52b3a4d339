-- Rows of cells, of which the first n are seen through a function: one cell read, one changed, all alike; and what holds of every cell.
use Prim.Native.Nat.{ℕ, zero, suc, ◌≤◌, ◌<◌}
use mathlib.Core.Path.{◌≡◌, refl, sym, ap, subst, ◌∙◌}
use mathlib.Core.List.{List, [], ◌∷◌, map}
use native.Mathlib.Omega.{arith}
use lib.ListN.{length, get_or, set, take, replicate, get_or-map}
use lib.Seq.{get_or-take}

module _ {A B : Type 0} (v : A → B) where
  pub view_at : (n : ℕ) (l : List A) (i : ℕ) (d : A) → i < n → get_or (map v (take n l)) i (v d) ≡ v (get_or l i d)
  view_at n l i d h = get_or-map v (take n l) i d ∙ ap v (get_or-take n l i d h)

  -- a cell that is there, whatever stands past the end
  pub view_within : (n : ℕ) (l : List A) (i : ℕ) (d : A) (e : B) → i < n → i < length l → get_or (map v (take n l)) i e ≡ v (get_or l i d)
  view_within zero l i d e h k = absurd (omega arith)
  view_within (suc n) [] i d e h k = absurd (omega arith)
  view_within (suc n) (y ∷ l) zero d e h k = refl
  view_within (suc n) (y ∷ l) (suc i) d e h k = view_within n l i d e (omega arith) (omega arith)

  pub view_set : (n : ℕ) (l : List A) (i : ℕ) (x : A) → map v (take n (set l i x)) ≡ set (map v (take n l)) i (v x)
  view_set zero l i x = refl
  view_set (suc n) [] i x = refl
  view_set (suc n) (y ∷ l) zero x = refl
  view_set (suc n) (y ∷ l) (suc i) x = ap (λ l. v y ∷ l) (view_set n l i x)

  pub view_alike : (n m : ℕ) (x : A) → n ≤ m → map v (take n (replicate m x)) ≡ replicate n (v x)
  view_alike zero m x h = refl
  view_alike (suc n) zero x h = absurd (omega arith)
  view_alike (suc n) (suc m) x h = ap (λ l. v x ∷ l) (view_alike n m x (omega arith))

module _ {A : Type 0} (P : A → Type 0) where
  -- kept where the new value has it
  pub all_set : (l : List A) (i : ℕ) (x d : A) → P d → ((j : ℕ) → P (get_or l j d)) → P x → (j : ℕ) → P (get_or (set l i x) j d)
  all_set [] i x d past h new j = past
  all_set (y ∷ l) zero x d past h new zero = new
  all_set (y ∷ l) zero x d past h new (suc j) = h (suc j)
  all_set (y ∷ l) (suc i) x d past h new zero = h 0
  all_set (y ∷ l) (suc i) x d past h new (suc j) = all_set l i x d past (λ j. h (suc j)) new j

  -- the same of a row that is known by an equation
  pub all_same : {l r : List A} (d : A) → r ≡ l → ((j : ℕ) → P (get_or l j d)) → (j : ℕ) → P (get_or r j d)
  all_same d e h j = subst (λ l. P (get_or l j d)) (sym e) (h j)

  pub all_alike : (n : ℕ) (x d : A) → P d → P x → (j : ℕ) → P (get_or (replicate n x) j d)
  all_alike zero x d past new j = past
  all_alike (suc n) x d past new zero = new
  all_alike (suc n) x d past new (suc j) = all_alike n x d past new j
