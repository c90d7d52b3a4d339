-- What the proofs of the code share: what `==` and the tests of a row say, bounds of coefficients and terms, and sums that grow term by term.
use mathlib.Core.Path.{◌≡◌, refl, sym, ap, ap₂, subst, ◌∙◌}
use mathlib.Core.Bool.{Bool, true, false, cond, ◌&&◌}
use mathlib.Core.List.{List, [], ◌∷◌, map}
use Prim.Native.Nat.{ℕ, zero, suc, ◌+◌, ◌*◌, ◌^◌, ◌<◌, ◌≤◌}
use lib.Pointwise.{pointwise}
use lib.ListN.{length, get_or, take, get_or-map}
use Rattle.std.proofs.lemmas.List.{get_or-take, ext_get_or, length-map, drop_all}
use lib.IntN.{ℤ, pos, ◌+ℤ◌, ◌*ℤ◌, +ℤ_idl, +ℤ_idr, +ℤ_assoc, *ℤ-zero}
use lib.Signed.{mag, le_z}
use mir.Syntax.{w64}
use mir.Val.{SFits}
use mir.Facts.{to_z-of_z}
use denote.Param.Members.{Mut}
use Rattle.std.proofs.Common.{add-one, add-zero, zero-add}
use Rattle.std.proofs.lemmas.Iterator.{YieldsList}
use Rattle.std.proofs.lemmas.Iterator.Consumers.{YieldsList-from_shown}
use Rattle.std.specs.Array.{list_steps, MapsFrom, IsMapOf}
use Rattle.std.specs.Fn.{Called}
use native.Mathlib.Omega.{arith}
use native.Mathlib.Nat as NatL
use Rattle.std.specs.Ordering.{int_eq}
use Rattle.std.specs.List.{list_all}
use Rattle.std.proofs.lemmas.Bool.Decides.{Decides-int_eq, same_from_decides}
use Rattle.numbers.specs.Words.{equal}
use Rattle.numbers.specs.Lists.{every, alike}
use Rattle.numbers.specs.Bounds.{Small}
use Rattle.numbers.proofs.Signs.{small_add, small_mul, back, as_it_is, as_returned, fits, wider}
use Rattle.numbers.proofs.Tests.{equal_eq, eq_equal}
use Rattle.forms.specs.Form as F
use Rattle.forms.specs.Code.{form, loop, loops, no_loop, Within, Turns}
use Rattle.forms.specs.declared.Form.{Form}
use Rattle.forms.specs.declared.Loop.{Loop}
use Rattle.forms.specs.declared.Loops.{Loops}

-- ---- a test `==` of signed numbers, and of rows of them

pub eq_is : (a b : ℤ) → int_eq a b ≡ equal a b
eq_is a b = same_from_decides (int_eq a b) (equal a b) (Decides-int_eq a b) (equal_eq a b, eq_equal)

pub rows_eq_is : (xs ys : List ℤ) → pointwise int_eq xs ys ≡ alike equal xs ys
unfolding alike
rows_eq_is [] [] = refl
rows_eq_is [] (y ∷ ys) = refl
rows_eq_is (x ∷ xs) [] = refl
rows_eq_is (x ∷ xs) (y ∷ ys) = ap₂ ◌&&◌ (eq_is x y) (rows_eq_is xs ys)

pub all_zero : (xs : List ℤ) → list_all (λ x. int_eq x (pos 0)) xs ≡ every (equal (pos 0)) xs
unfolding every
all_zero [] = refl
all_zero (x ∷ xs) = ap₂ ◌&&◌ (same_from_decides (int_eq x (pos 0)) (equal (pos 0) x) (Decides-int_eq x (pos 0)) (λ e. sym (equal_eq (pos 0) x e), λ e. eq_equal (sym e))) (all_zero xs)

-- ---- levels

-- what is so from the fourth level on
pub past_four : (P : ℕ → Type 0) → ((n : ℕ) → P (suc (suc (suc (suc n))))) → (n : ℕ) → 4 ≤ n → P n
past_four P f zero h = absurd (omega arith)
past_four P f (suc zero) h = absurd (omega arith)
past_four P f (suc (suc zero)) h = absurd (omega arith)
past_four P f (suc (suc (suc zero))) h = absurd (omega arith)
past_four P f (suc (suc (suc (suc n)))) h = f n

pub nothing_past : (n : ℕ) (f : Form) → length f.x ≤ n → true ≡ F.around n (form f)
unfolding F.around every
nothing_past n f h = rw drop_all refl

pub coefficient_small : {K X : ℕ} {f : Form} → Within K X f → (level : ℕ) → Small X (F.coefficient level (form f))
unfolding F.coefficient
coefficient_small h level = h.x_small level

-- ---- the constant with a level's term at v added, as the next call reads it

module _ {f : Form} {v x : ℤ} (level : ℕ) (h : Within (2 ^ 50) (2 ^ 33) f) (k : Small (2 ^ 17) v) (x_is : x ≡ F.coefficient level (form f)) where
  pub term_small : Small (2 ^ 33) x
  term_small = rw x_is (coefficient_small h level)

  pub plus_term : {r : ℤ} → mag r < 2 ^ 63 → r ≡ back f.k +ℤ back x *ℤ back v → back r ≡ f.k +ℤ F.coefficient level (form f) *ℤ v
  plus_term ok r_is = as_returned ok ∙ r_is ∙ (λ i. as_it_is h.k_small tt i +ℤ (as_it_is term_small tt ∙ x_is) i *ℤ as_it_is k tt i)

-- ---- sums that grow term by term

pub upto : {A B : ℕ} {a : ℤ} → Small A a → A ≤ B → Small B a
upto h k = record { abs = NatL.le_trans h.abs k }

-- the sum of the first n terms and one more
module _ (n : ℕ) {s y : ℤ} (h : Small (2 ^ 50 * (n + 1)) s) (k : Small (2 ^ 50) y) where
  pub sum_small : Small (2 ^ 50 * (n + 1 + 1)) (s +ℤ y)
  sum_small = upto (small_add h k) (omega arith)

  pub sum_fits : n < 4 → SFits w64 (s +ℤ y)
  sum_fits l = fits {A = 2 ^ 53} (upto sum_small (omega arith)) tt

  pub sum_back : n < 4 → back (s +ℤ y) ≡ s +ℤ y
  sum_back l = to_z-of_z (sum_fits l)

terms_next : (xs cs : List ℤ) (n : ℕ) → n < length xs → F.terms (take (suc n) xs) cs ≡ F.terms (take n xs) cs +ℤ get_or xs n (pos 0) *ℤ get_or cs n (pos 0)
unfolding F.terms
terms_next [] cs n h = absurd (omega arith)
terms_next (x ∷ xs) [] zero h = sym (ap (λ z. pos 0 +ℤ z) (*ℤ-zero x))
terms_next (x ∷ xs) [] (suc n) h = sym (ap (λ z. pos 0 +ℤ z) (*ℤ-zero (get_or xs n (pos 0))))
terms_next (x ∷ xs) (c ∷ cs) zero h = +ℤ_idr (x *ℤ c) ∙ sym (+ℤ_idl (x *ℤ c))
terms_next (x ∷ xs) (c ∷ cs) (suc n) h = ap (λ z. x *ℤ c +ℤ z) (terms_next xs cs n (omega arith)) ∙ sym (+ℤ_assoc (x *ℤ c) (F.terms (take n xs) cs) (get_or xs n (pos 0) *ℤ get_or cs n (pos 0)))

pub terms_more : (xs cs : List ℤ) (n : ℕ) → n < length xs → F.terms (take (n + 1) xs) cs ≡ F.terms (take n xs) cs +ℤ get_or xs n (pos 0) *ℤ get_or cs n (pos 0)
terms_more xs cs n h = rw add-one (terms_next xs cs n h)

-- what a level's term adds at most
unfoldable pub most_of : ℤ → F.Loop → ℤ
most_of x l = F.larger (x *ℤ l.first) (x *ℤ F.last l)

most_next : (xs : List ℤ) (ls : List F.Loop) (n : ℕ) (d : F.Loop) → n < length xs → n < length ls → F.most (take (suc n) xs) ls ≡ F.most (take n xs) ls +ℤ most_of (get_or xs n (pos 0)) (get_or ls n d)
unfolding F.most most_of
most_next [] ls n d h k = absurd (omega arith)
most_next (x ∷ xs) [] n d h k = absurd (omega arith)
most_next (x ∷ xs) (l ∷ ls) zero d h k = +ℤ_idr (most_of x l) ∙ sym (+ℤ_idl (most_of x l))
most_next (x ∷ xs) (l ∷ ls) (suc n) d h k =
    ap (λ z. most_of x l +ℤ z) (most_next xs ls n d (omega arith) (omega arith)) ∙ sym (+ℤ_assoc (most_of x l) (F.most (take n xs) ls) (most_of (get_or xs n (pos 0)) (get_or ls n d)))

pub most_more : (xs : List ℤ) (ls : List F.Loop) (n : ℕ) (d : F.Loop) → n < length xs → n < length ls → F.most (take (n + 1) xs) ls ≡ F.most (take n xs) ls +ℤ most_of (get_or xs n (pos 0)) (get_or ls n d)
most_more xs ls n d h k = rw add-one (most_next xs ls n d h k)

pub most_of_all : (xs : List ℤ) (ls : List F.Loop) (n : ℕ) → length ls ≤ n → F.most (take n xs) ls ≡ F.most xs ls
unfolding F.most
most_of_all [] ls zero h = refl
most_of_all [] ls (suc n) h = refl
most_of_all (x ∷ xs) [] zero h = refl
most_of_all (x ∷ xs) [] (suc n) h = refl
most_of_all (x ∷ xs) (l ∷ ls) zero h = absurd (omega arith)
most_of_all (x ∷ xs) (l ∷ ls) (suc n) h = ap (λ z. F.larger (x *ℤ l.first) (x *ℤ F.last l) +ℤ z) (most_of_all xs ls n (omega arith))

pub most_small : {x : ℤ} {l : Loop} → Small (2 ^ 33) x → Turns l → Small (2 ^ 50) (most_of x (loop l))
unfolding most_of F.larger
most_small {x} {l} h t = by (le_z (x *ℤ l.first) (x *ℤ F.last (loop l)))
  where
    by : (b : Bool) → Small (2 ^ 50) (cond b (x *ℤ F.last (loop l)) (x *ℤ l.first))
    by true = small_mul h t.last_small
    by false = wider (small_mul h t.first_small) tt

-- a level that is around, in the row of them
pub loop_at : (ls : Loops) (level : ℕ) → level < ls.count → get_or (loops ls) level (loop no_loop) ≡ loop (get_or ls.levels level no_loop)
loop_at ls level h = get_or-take ls.count (map loop ls.levels) level (loop no_loop) h ∙ get_or-map loop ls.levels level no_loop

-- ---- a row mapped by a closure that changes nothing

pub list_road : (xs : List ℤ) → YieldsList list_steps (λ x. x) xs xs
list_road xs = YieldsList-from_shown list_steps (λ x. x) (λ s. s) (λ s t h. ap length h) (λ s x t h. h) xs

module _ {F : Type 0} (g : Mut F (ℤ × Unit {0}) ℤ) (h : ℤ → ℤ) (f : F) (A : ℕ) (gives : (x y : ℤ) (q : F) → Small A x → Called g f (x, tt) y q → (q ≡ f) × (y ≡ h x)) where
  each_is : (xs ys : List ℤ) → ((k : ℕ) → Small A (get_or xs k (pos 0))) → (p : F) (i n k : ℕ) → p ≡ f → MapsFrom g p xs ys i n → k < n → get_or ys (i + k) (pos 0) ≡ h (get_or xs (i + k) (pos 0))
  each_is xs ys s p i zero k e m l = absurd (omega arith)
  each_is xs ys s p i (suc n) zero e (q, x, y, x_at, y_at, c, rest) l =
      let made = gives x y q (rw (← x_at.1 (pos 0)) (s i)) (subst (λ p. Called g p (x, tt) y q) e c) in
      rw add-zero (y_at.1 (pos 0) ∙ made.1 ∙ sym (ap h (x_at.1 (pos 0))))
  each_is xs ys s p i (suc n) (suc k) e (q, x, y, x_at, y_at, c, rest) l =
      let made = gives x y q (rw (← x_at.1 (pos 0)) (s i)) (subst (λ p. Called g p (x, tt) y q) e c) in
      let on : i + suc k ≡ (i + 1) + k = omega arith in
      rw on (each_is xs ys s q (i + 1) n k made.0 rest (omega arith))

  pub mapped : (xs ys : List ℤ) (n : ℕ) → ((k : ℕ) → Small A (get_or xs k (pos 0))) → length xs ≡ n → h (pos 0) ≡ pos 0 → IsMapOf g f xs ys n → ys ≡ map h xs
  mapped xs ys n s e z m =
      ext_get_or (pos 0) ys (map h xs) (m.long ∙ sym e ∙ sym (length-map xs h))
      (λ k l. rw zero-add at (each_is xs ys s f 0 n k refl m.each (omega (arith, m.long))) ∙ sym (subst (λ d. get_or (map h xs) k d ≡ h (get_or xs k (pos 0))) z (get_or-map h xs k (pos 0))))
