-- Rows: what stands at a place; and two of them tested against each other, cell by cell, where the test of the whole is that of the cells from i on.
use Rattle.std.proofs.Common.{◌≡◌, ℕ, zero, suc, ◌+◌, ◌<◌, ◌≤◌, Bool, true, false, ◌&&◌, List, [], ◌∷◌, length, get_or, drop, replicate, refl, ap, ◌∙◌, ap₂, arith, drop_of_length-le}
use Rattle.numbers.specs.Lists.{alike}

drop_from : {A : Type 0} (xs : List A) (p : ℕ) (d : A) → p < length xs → drop p xs ≡ get_or xs p d ∷ drop (suc p) xs
drop_from [] p d h = absurd (omega arith)
drop_from (x ∷ xs) zero d h = refl
drop_from (x ∷ xs) (suc p) d h = drop_from xs p d (omega arith)

-- what stands at a place, and what follows
pub drop_there : {A : Type 0} (xs : List A) (p : ℕ) (d : A) → p < length xs → drop p xs ≡ get_or xs p d ∷ drop (p + 1) xs
drop_there xs p d h =
    let e : suc p ≡ p + 1 = omega arith in
    drop_from xs p d h ∙ ap (λ n. get_or xs p d ∷ drop n xs) e

-- a row of one value has it everywhere
pub replicate_at : {A : Type 0} (n i : ℕ) (x : A) → get_or (replicate n x) i x ≡ x
replicate_at zero i x = refl
replicate_at (suc n) zero x = refl
replicate_at (suc n) (suc i) x = replicate_at n i x

module _ {A B : Type 0} (t : A → B → Bool) (xs : List A) (ys : List B) where
  abbrev pub From : ℕ → Type 0
  From i = alike t xs ys ≡ alike t (drop i xs) (drop i ys)

  module _ (i : ℕ) (d : A) (e : B) (h : i < length xs) (k : i < length ys) (f : From i) where
    next : alike t xs ys ≡ t (get_or xs i d) (get_or ys i e) && alike t (drop (i + 1) xs) (drop (i + 1) ys)
    unfolding alike
    next = f ∙ ap₂ (alike t) (drop_there xs i d h) (drop_there ys i e k)

    pub test_goes_on : t (get_or xs i d) (get_or ys i e) ≡ true → From (i + 1)
    test_goes_on q = next ∙ ap (λ b. b && alike t (drop (i + 1) xs) (drop (i + 1) ys)) q

    pub test_fails : t (get_or xs i d) (get_or ys i e) ≡ false → alike t xs ys ≡ false
    test_fails q = next ∙ ap (λ b. b && alike t (drop (i + 1) xs) (drop (i + 1) ys)) q

  pub test_passes : (i : ℕ) → length xs ≤ i → length ys ≤ i → From i → alike t xs ys ≡ true
  unfolding alike
  test_passes i h k f = f ∙ ap₂ (alike t) (drop_of_length-le xs {i = i} h) (drop_of_length-le ys {i = i} k)
