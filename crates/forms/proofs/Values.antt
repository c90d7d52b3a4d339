-- The value of each form that is made from forms, at any counters: callers use these laws and not the definitions' text.
use mathlib.Core.Path.{◌≡◌, refl, sym, ap, ◌∙◌}
use mathlib.Core.List.{List, [], ◌∷◌, map}
use Prim.Native.Nat.{ℕ, zero, suc, ◌<◌}
use native.Mathlib.Omega.{arith}
use lib.ListN.{length, get_or, set, replicate}
use lib.IntN.{ℤ, pos, ◌+ℤ◌, ◌*ℤ◌, +ℤ_assoc, +ℤ_idl, +ℤ_idr, zero-*ℤ, *ℤ-zero}
use Rattle.numbers.proofs.Ring.{ring, +ℤ_cancel}
use Rattle.forms.specs.Form.{Form, terms, value, constant, coefficient, plus_one, along, put_at, moved_by}

-- ---- constants

no_terms : (n : ℕ) (cs : List ℤ) → terms (replicate n (pos 0)) cs ≡ pos 0
unfolding terms
no_terms zero cs = refl
no_terms (suc n) [] = refl
no_terms (suc n) (c ∷ cs) = ap (λ z. z +ℤ terms (replicate n (pos 0)) cs) (zero-*ℤ c) ∙ +ℤ_idl (terms (replicate n (pos 0)) cs) ∙ no_terms n cs

pub value_constant : (z : ℤ) (cs : List ℤ) → value (constant z) cs ≡ z
unfolding value
value_constant z cs = ap (λ t. z +ℤ t) (no_terms 4 cs) ∙ +ℤ_idr z

-- ---- one more, and first + step × f

one_more : (k t : ℤ) → (k +ℤ pos 1) +ℤ t ≡ (k +ℤ t) +ℤ pos 1
one_more k t = simp ring

pub value_plus_one : (f : Form) (cs : List ℤ) → value (plus_one f) cs ≡ value f cs +ℤ pos 1
unfolding value plus_one
value_plus_one f cs = one_more f.k (terms f.x cs)

scaled : (s x c t : ℤ) → (s *ℤ x) *ℤ c +ℤ s *ℤ t ≡ s *ℤ (x *ℤ c +ℤ t)
scaled s x c t = simp ring

terms_scaled : (s : ℤ) (xs cs : List ℤ) → terms (map (λ x. s *ℤ x) xs) cs ≡ s *ℤ terms xs cs
unfolding terms
terms_scaled s [] cs = sym (*ℤ-zero s)
terms_scaled s (x ∷ xs) [] = sym (*ℤ-zero s)
terms_scaled s (x ∷ xs) (c ∷ cs) = ap (λ t. (s *ℤ x) *ℤ c +ℤ t) (terms_scaled s xs cs) ∙ scaled s x c (terms xs cs)

gathered : (a s k t : ℤ) → (a +ℤ s *ℤ k) +ℤ s *ℤ t ≡ a +ℤ s *ℤ (k +ℤ t)
gathered a s k t = simp ring

pub value_along : (a s : ℤ) (f : Form) (cs : List ℤ) → value (along a s f) cs ≡ a +ℤ s *ℤ value f cs
unfolding value along
value_along a s f cs = ap (λ t. (a +ℤ s *ℤ f.k) +ℤ t) (terms_scaled s f.x cs) ∙ gathered a s f.k (terms f.x cs)

-- ---- one counter at another value

-- what the terms are with the counter of a level changed from c to d
changed : (x c d t : ℤ) → x *ℤ d +ℤ t +ℤ x *ℤ c ≡ x *ℤ c +ℤ t +ℤ x *ℤ d
changed x c d t = simp ring

passed_on : (a t u v w : ℤ) → t +ℤ u ≡ v +ℤ w → (a +ℤ t) +ℤ u ≡ (a +ℤ v) +ℤ w
passed_on a t u v w e = +ℤ_assoc a t u ∙ ap (λ z. a +ℤ z) e ∙ sym (+ℤ_assoc a v w)

terms_set : (xs cs : List ℤ) (level : ℕ) (d : ℤ) → level < length cs
    → terms xs (set cs level d) +ℤ get_or xs level (pos 0) *ℤ get_or cs level (pos 0) ≡ terms xs cs +ℤ get_or xs level (pos 0) *ℤ d
unfolding terms
terms_set [] cs level d h = ap (λ z. pos 0 +ℤ z) (zero-*ℤ (get_or cs level (pos 0)) ∙ sym (zero-*ℤ d))
terms_set (x ∷ xs) [] level d h = absurd (none h)
  where
    none : level < 0 → ⊥
    none h = omega arith
terms_set (x ∷ xs) (c ∷ cs) zero d h = changed x c d (terms xs cs)
terms_set (x ∷ xs) (c ∷ cs) (suc level) d h =
    passed_on (x *ℤ c) (terms xs (set cs level d)) (get_or xs level (pos 0) *ℤ get_or cs level (pos 0)) (terms xs cs) (get_or xs level (pos 0) *ℤ d)
    (terms_set xs cs level d (less h))
  where
    less : suc level < suc (length cs) → level < length cs
    less h = omega arith

-- the terms without that of a level
terms_cleared : (xs cs : List ℤ) (level : ℕ) → level < length cs
    → terms (set xs level (pos 0)) cs +ℤ get_or xs level (pos 0) *ℤ get_or cs level (pos 0) ≡ terms xs cs
unfolding terms
terms_cleared [] cs level h = ap (λ z. pos 0 +ℤ z) (zero-*ℤ (get_or cs level (pos 0)))
terms_cleared (x ∷ xs) [] level h = absurd (none h)
  where
    none : level < 0 → ⊥
    none h = omega arith
terms_cleared (x ∷ xs) (c ∷ cs) zero h =
    ap (λ z. (z +ℤ terms xs cs) +ℤ x *ℤ c) (zero-*ℤ c) ∙ swapped (x *ℤ c) (terms xs cs)
  where
    swapped : (a t : ℤ) → (pos 0 +ℤ t) +ℤ a ≡ a +ℤ t
    swapped a t = simp ring
terms_cleared (x ∷ xs) (c ∷ cs) (suc level) h =
    +ℤ_assoc (x *ℤ c) (terms (set xs level (pos 0)) cs) (get_or xs level (pos 0) *ℤ get_or cs level (pos 0)) ∙ ap (λ z. x *ℤ c +ℤ z) (terms_cleared xs cs level (less h))
  where
    less : suc level < suc (length cs) → level < length cs
    less h = omega arith

-- ---- a counter put at a value, and moved on

pub value_put_at : (level : ℕ) (c : ℤ) (f : Form) (cs : List ℤ) → level < length cs → value (put_at level c f) cs ≡ value f (set cs level c)
unfolding value put_at coefficient
value_put_at level c f cs h = all f.k (get_or f.x level (pos 0) *ℤ c) (terms (set f.x level (pos 0)) cs) (get_or f.x level (pos 0) *ℤ get_or cs level (pos 0)) (terms f.x cs) (terms f.x (set cs level c))
    (terms_cleared f.x cs level h) (terms_set f.x cs level c h)
  where
    open_sum : (k x a : ℤ) → (k +ℤ x) +ℤ a ≡ k +ℤ (a +ℤ x)
    open_sum k x a = simp ring

    shift : (a p x : ℤ) → (a +ℤ p) +ℤ x ≡ (a +ℤ x) +ℤ p
    shift a p x = simp ring

    all : (k x a p t s : ℤ) → a +ℤ p ≡ t → s +ℤ p ≡ t +ℤ x → (k +ℤ x) +ℤ a ≡ k +ℤ s
    all k x a p t s e g = open_sum k x a ∙ ap (λ z. k +ℤ z) (+ℤ_cancel p (a +ℤ x) s (sym (shift a p x) ∙ ap (λ z. z +ℤ x) e ∙ sym g))

pub value_moved_by : (level : ℕ) (s : ℤ) (f : Form) (cs : List ℤ) → level < length cs → value (moved_by level s f) cs ≡ value f (set cs level (get_or cs level (pos 0) +ℤ s))
unfolding value moved_by coefficient
value_moved_by level s f cs h = all f.k (get_or f.x level (pos 0)) (get_or cs level (pos 0)) (terms f.x cs) (terms f.x (set cs level (get_or cs level (pos 0) +ℤ s)))
    (terms_set f.x cs level (get_or cs level (pos 0) +ℤ s) h)
  where
    open_sum : (k x t : ℤ) → (k +ℤ x *ℤ s) +ℤ t ≡ k +ℤ (t +ℤ x *ℤ s)
    open_sum k x t = simp ring

    shift : (t x c : ℤ) → t +ℤ x *ℤ (c +ℤ s) ≡ (t +ℤ x *ℤ s) +ℤ x *ℤ c
    shift t x c = simp ring

    all : (k x c t u : ℤ) → u +ℤ x *ℤ c ≡ t +ℤ x *ℤ (c +ℤ s) → (k +ℤ x *ℤ s) +ℤ t ≡ k +ℤ u
    all k x c t u e = open_sum k x t ∙ ap (λ z. k +ℤ z) (+ℤ_cancel (x *ℤ c) (t +ℤ x *ℤ s) u (sym (e ∙ shift t x c)))
