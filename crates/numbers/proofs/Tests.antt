-- What the tests of specs/ say when they hold, and that they hold of what they say.
use Rattle.std.proofs.Common.{◌≡◌, ℕ, zero, suc, ◌<◌, ◌≤◌, Bool, true, false, ◌&&◌, ◌||◌, leb, ◌⊎◌, List, [], ◌∷◌, length, get_or, ℤ, pos, negsuc, nat_abs, refl, ap, subst, ap₂, inl, inr, arith, ltb-true, lt-ltb, eq-eqb, eqb-true, le-leb, leb-true}
use mathlib.Core.Bool.{false≢true}
use Rattle.numbers.specs.Words.{between, within, inside, equal}
use Rattle.numbers.specs.Lists.{every, alike, Pairwise, none, more}

-- ---- and, or

pub and_left : (a b : Bool) → a && b ≡ true → a ≡ true
and_left true b h = refl
and_left false b h = h

pub and_right : (a b : Bool) → a && b ≡ true → b ≡ true
and_right true b h = h
and_right false b h = absurd (false≢true h)

pub and_true : {a b : Bool} → a ≡ true → b ≡ true → a && b ≡ true
and_true {a} {b} h k = ap₂ ◌&&◌ h k

pub or_cases : (a b : Bool) → a || b ≡ true → (a ≡ true) ⊎ (b ≡ true)
or_cases true b h = inl refl
or_cases false b h = inr h

-- tests joined by `&&`, as a row
abbrev pub all_of : Bool → List Bool → Bool
all_of b [] = b
all_of b (c ∷ cs) = all_of (b && c) cs

-- each of them
pub each_of : (b : Bool) (cs : List Bool) → all_of b cs ≡ true → (i : ℕ) → get_or (b ∷ cs) i true ≡ true
each_of b [] h zero = h
each_of b [] h (suc i) = refl
each_of b (c ∷ cs) h zero = and_left b c (each_of (b && c) cs h 0)
each_of b (c ∷ cs) h (suc zero) = and_right b c (each_of (b && c) cs h 0)
each_of b (c ∷ cs) h (suc (suc i)) = each_of (b && c) cs h (suc i)

-- ---- numbers

pub between_range : (a b n : ℕ) → between a b n ≡ true → (a ≤ n) × (n ≤ b)
unfolding between
between_range a b n h = (leb-true a n (and_left (leb a n) (leb n b) h), leb-true n b (and_right (leb a n) (leb n b) h))

pub range_between : (a b n : ℕ) → a ≤ n → n ≤ b → between a b n ≡ true
unfolding between
range_between a b n h k = and_true (le-leb a n h) (le-leb n b k)

pub within_abs : (n : ℕ) (z : ℤ) → within n z ≡ true → nat_abs z ≤ n
unfolding within
within_abs n (pos a) h = leb-true a n h
within_abs n (negsuc a) h = ltb-true a n h

pub inside_index : (n : ℕ) (z : ℤ) → inside n z ≡ true → (i : ℕ) × (z ≡ pos i) × (i < n)
unfolding inside
inside_index n (pos i) h = (i, refl, ltb-true i n h)
inside_index n (negsuc i) h = absurd (false≢true h)

pub index_inside : (n i : ℕ) → i < n → inside n (pos i) ≡ true
unfolding inside
index_inside n i h = lt-ltb i n h

pub equal_eq : (a b : ℤ) → equal a b ≡ true → a ≡ b
unfolding equal
equal_eq (pos a) (pos b) h = ap pos (eqb-true a b h)
equal_eq (pos a) (negsuc b) h = absurd (false≢true h)
equal_eq (negsuc a) (pos b) h = absurd (false≢true h)
equal_eq (negsuc a) (negsuc b) h = ap negsuc (eqb-true a b h)

pub equal_refl : (a : ℤ) → equal a a ≡ true
unfolding equal
equal_refl (pos a) = eq-eqb a a refl
equal_refl (negsuc a) = eq-eqb a a refl

pub eq_equal : {a b : ℤ} → a ≡ b → equal a b ≡ true
eq_equal {a} e = subst (λ b. equal a b ≡ true) e (equal_refl a)

pub not_equal : {a b : ℤ} → (a ≡ b → ⊥) → equal a b ≡ false
not_equal {a} {b} h = by (equal a b) refl
  where
    by : (t : Bool) → equal a b ≡ t → t ≡ false
    by true e = absurd (h (equal_eq a b e))
    by false e = refl

-- ---- rows

module _ {A : Type 0} (t : A → Bool) where
  -- what passes past the end too passes everywhere
  pub every_at : (xs : List A) (d : A) → every t xs ≡ true → t d ≡ true → (i : ℕ) → t (get_or xs i d) ≡ true
  unfolding every
  every_at [] d h k i = k
  every_at (x ∷ xs) d h k zero = and_left (t x) (every t xs) h
  every_at (x ∷ xs) d h k (suc i) = every_at xs d (and_right (t x) (every t xs) h) k i

  pub at_every : (xs : List A) (d : A) → ((i : ℕ) → i < length xs → t (get_or xs i d) ≡ true) → every t xs ≡ true
  unfolding every
  at_every [] d h = refl
  at_every (x ∷ xs) d h = and_true (h 0 (omega arith)) (at_every xs d (λ i l. h (suc i) (omega arith)))

module _ {A B : Type 0} (t : A → B → Bool) (R : A → B → Type 0) where
  pub alike_pairwise : ((x : A) (y : B) → t x y ≡ true → R x y) → (xs : List A) (ys : List B) → alike t xs ys ≡ true → Pairwise R xs ys
  unfolding alike
  alike_pairwise f [] [] h = none
  alike_pairwise f [] (y ∷ ys) h = absurd (false≢true h)
  alike_pairwise f (x ∷ xs) [] h = absurd (false≢true h)
  alike_pairwise f (x ∷ xs) (y ∷ ys) h =
      more (f x y (and_left (t x y) (alike t xs ys) h)) (alike_pairwise f xs ys (and_right (t x y) (alike t xs ys) h))

  pub pairwise_alike : ((x : A) (y : B) → R x y → t x y ≡ true) → {xs : List A} {ys : List B} → Pairwise R xs ys → alike t xs ys ≡ true
  unfolding alike
  pairwise_alike f none = refl
  pairwise_alike f (more {x} {y} r p) = and_true (f x y r) (pairwise_alike f p)

pub pairwise_eq : {A : Type 0} {xs ys : List A} → Pairwise ◌≡◌ xs ys → xs ≡ ys
pairwise_eq none = refl
pairwise_eq (more e p) = ap₂ ◌∷◌ e (pairwise_eq p)

module _ {A : Type 0} (t : A → A → Bool) where
  pub alike_eq : ((a b : A) → t a b ≡ true → a ≡ b) → (xs ys : List A) → alike t xs ys ≡ true → xs ≡ ys
  alike_eq f xs ys h = pairwise_eq (alike_pairwise t ◌≡◌ f xs ys h)

  pub eq_alike : ((a : A) → t a a ≡ true) → {xs ys : List A} → xs ≡ ys → alike t xs ys ≡ true
  unfolding alike
  eq_alike f {xs} e = subst (λ ys. alike t xs ys ≡ true) e (self xs)
    where
      self : (xs : List A) → alike t xs xs ≡ true
      self [] = refl
      self (x ∷ xs) = and_true (f x) (self xs)
