-- Tests over whole rows, and the sum of a row.
use Rattle.std.specs.Prelude.{ℕ, ◌+◌, Bool, true, false, ◌&&◌, List, [], ◌∷◌}

unfoldable pub sum : List ℕ → ℕ
sum [] = 0
sum (n ∷ ns) = n + sum ns

module _ {A : Type 0} where
  -- every element passes
  unfoldable pub every : (A → Bool) → List A → Bool
  every t [] = true
  every t (x ∷ xs) = t x && every t xs

  -- as long as each other, and every two elements pass
  unfoldable pub alike : {B : Type 0} → (A → B → Bool) → List A → List B → Bool
  alike t [] [] = true
  alike t [] (y ∷ ys) = false
  alike t (x ∷ xs) [] = false
  alike t (x ∷ xs) (y ∷ ys) = t x y && alike t xs ys

-- as long as each other, and every two elements related
pub data Pairwise {A B : Type 0} (R : A → B → Type 0) : List A → List B → Type 0 where
  none : Pairwise R [] []
  more : {x : A} {y : B} {xs : List A} {ys : List B} → R x y → Pairwise R xs ys → Pairwise R (x ∷ xs) (y ∷ ys)
