-- "Position below count" by reckoning: `largest` is the largest value over all choices of counter values and is reached, so `below`
-- says yes exactly where no choice brings the form to the count.
use mathlib.Core.Path.{◌≡◌, refl, sym, ap, ap₂, subst, subst₂, ◌∙◌}
use mathlib.Core.Bool.{Bool, true, false, cond}
use mathlib.Core.List.{List, [], ◌∷◌}
use Prim.Native.Nat.{ℕ, zero, suc, ◌*◌, ◌-◌, ◌<◌, ◌≤◌}
use native.Mathlib.Omega.{arith}
use native.Mathlib.Nat.{mul-le-mul_left}
use lib.IntN.{ℤ, pos, negsuc, neg_ℤ, ◌+ℤ◌, ◌*ℤ◌, +ℤ_idr, *ℤ-zero}
use lib.Signed.{le_z, lt_z, ◌≤ℤ◌, ≤ℤ_refl}
use Rattle.numbers.proofs.Ring.{ring}
use Rattle.numbers.proofs.Order.{le_trans, le_lt_trans, add_le, pos_le, test_lt, lt_test, test_not_lt, test_le, test_not_le}
use Rattle.forms.specs.Form.{Form, terms, value, Loop, counter, last, Choice, none, pass, Below, larger, most, largest, below}

-- ---- the larger of two

pub left_larger : (a b : ℤ) → a ≤ℤ larger a b
unfolding larger
left_larger a b = by (le_z a b) refl
  where
    by : (t : Bool) → le_z a b ≡ t → a ≤ℤ cond t b a
    by true e = test_le a b e
    by false e = ≤ℤ_refl a

pub right_larger : (a b : ℤ) → b ≤ℤ larger a b
unfolding larger
right_larger a b = by (le_z a b) refl
  where
    by : (t : Bool) → le_z a b ≡ t → b ≤ℤ cond t b a
    by true e = ≤ℤ_refl b
    by false e = test_not_le a b e

-- ---- one term: over a loop's passes it is largest at one of the two ends

opened : (x f s i : ℤ) → x *ℤ (f +ℤ s *ℤ i) ≡ x *ℤ f +ℤ (x *ℤ s) *ℤ i
opened x f s i = simp ring

-- a term that does not fall: every pass is at most the last
rising : (x f s : ℤ) (t i n : ℕ) → x *ℤ s ≡ pos t → i ≤ n → (x *ℤ (f +ℤ s *ℤ pos i)) ≤ℤ (x *ℤ (f +ℤ s *ℤ pos n))
rising x f s t i n e h =
    subst₂ (λ a b. a ≤ℤ b) (sym (opened x f s (pos i) ∙ ap (λ y. x *ℤ f +ℤ y *ℤ pos i) e)) (sym (opened x f s (pos n) ∙ ap (λ y. x *ℤ f +ℤ y *ℤ pos n) e))
    (add_le (≤ℤ_refl (x *ℤ f)) (pos_le (mul-le-mul_left t h)))

-- a term that falls: every pass is at most the first
falling : (x f s : ℤ) (t i : ℕ) → x *ℤ s ≡ negsuc t → (x *ℤ (f +ℤ s *ℤ pos i)) ≤ℤ (x *ℤ f)
falling x f s t i e =
    subst (λ z. z ≤ℤ (x *ℤ f)) (sym (opened x f s (pos i) ∙ ap (λ y. x *ℤ f +ℤ y *ℤ pos i) e))
    (subst (λ z. (x *ℤ f +ℤ neg_ℤ (pos (suc t * i))) ≤ℤ z) (+ℤ_idr (x *ℤ f)) (add_le (≤ℤ_refl (x *ℤ f)) (below_zero (suc t * i))))
  where
    below_zero : (n : ℕ) → neg_ℤ (pos n) ≤ℤ pos 0
    below_zero zero = ≤ℤ_refl (pos 0)
    below_zero (suc n) = record { le = tt }

term_most : (x : ℤ) (l : Loop) (m : ℕ) → m < l.passes → (x *ℤ counter l m) ≤ℤ larger (x *ℤ l.first) (x *ℤ last l)
unfolding counter last
term_most x l m h = by (x *ℤ l.step) refl
  where
    by : (y : ℤ) → x *ℤ l.step ≡ y → (x *ℤ (l.first +ℤ l.step *ℤ pos m)) ≤ℤ larger (x *ℤ l.first) (x *ℤ (l.first +ℤ l.step *ℤ pos (l.passes - 1)))
    by (pos t) e = le_trans (rising x l.first l.step t m (l.passes - 1) e (omega arith)) (right_larger (x *ℤ l.first) (x *ℤ (l.first +ℤ l.step *ℤ pos (l.passes - 1))))
    by (negsuc t) e = le_trans (falling x l.first l.step t m e) (left_larger (x *ℤ l.first) (x *ℤ (l.first +ℤ l.step *ℤ pos (l.passes - 1))))

-- ---- no choice passes the largest value

terms_most : (xs : List ℤ) {ls : List Loop} {cs : List ℤ} → Choice ls cs → terms xs cs ≤ℤ most xs ls
unfolding terms most
terms_most [] c = ≤ℤ_refl (pos 0)
terms_most (x ∷ xs) none = ≤ℤ_refl (pos 0)
terms_most (x ∷ xs) (pass {l} m h c) = add_le (term_most x l m h) (terms_most xs c)

pub at_most_largest : (f : Form) {ls : List Loop} {cs : List ℤ} → Choice ls cs → value f cs ≤ℤ largest ls f
unfolding value largest
at_most_largest f c = add_le (≤ℤ_refl f.k) (terms_most f.x c)

-- ---- some choice reaches it, where every loop has a pass

pub data Turning : List Loop → Type 0 where
  none_around : Turning []
  turns : {l : Loop} {ls : List Loop} → 0 < l.passes → Turning ls → Turning (l ∷ ls)

-- the better end of one loop
pub record End (x : ℤ) (l : Loop) : Type 0 where
  pub at : ℕ
  pub in_time : at < l.passes
  pub best : x *ℤ counter l at ≡ larger (x *ℤ l.first) (x *ℤ last l)

better_end : (x : ℤ) (l : Loop) → 0 < l.passes → End x l
unfolding counter last larger
better_end x l h = by (le_z (x *ℤ l.first) (x *ℤ last l)) refl
  where
    first_is : l.first +ℤ l.step *ℤ pos 0 ≡ l.first
    first_is = ap (λ z. l.first +ℤ z) (*ℤ-zero l.step) ∙ +ℤ_idr l.first

    by : (t : Bool) → le_z (x *ℤ l.first) (x *ℤ last l) ≡ t → End x l
    by true e = record { at = l.passes - 1; in_time = omega arith; best = ap (λ t. cond t (x *ℤ last l) (x *ℤ l.first)) (sym e) }
    by false e = record { at = 0; in_time = h; best = ap (λ z. x *ℤ z) first_is ∙ ap (λ t. cond t (x *ℤ last l) (x *ℤ l.first)) (sym e) }

pub record Reached (xs : List ℤ) (ls : List Loop) : Type 0 where
  pub counters : List ℤ
  pub choice : Choice ls counters
  pub most_is : terms xs counters ≡ most xs ls

reached : (xs : List ℤ) {ls : List Loop} → Turning ls → Reached xs ls
unfolding terms most
reached [] none_around = record { counters = []; choice = none; most_is = refl }
reached (x ∷ xs) none_around = record { counters = []; choice = none; most_is = refl }
reached [] (turns {l} h t) =
    let r = reached [] t in
    record { counters = counter l 0 ∷ r.counters; choice = pass 0 h r.choice; most_is = refl }
reached (x ∷ xs) (turns {l} h t) =
    let e = better_end x l h in
    let r = reached xs t in
    record { counters = counter l e.at ∷ r.counters; choice = pass e.at e.in_time r.choice; most_is = ap₂ ◌+ℤ◌ e.best r.most_is }

-- ---- below, exactly

pub below_says : (ls : List Loop) (n : ℕ) (f : Form) → below ls n f ≡ true → Below ls n f
unfolding below
below_says ls n f h = record { always = λ cs c. le_lt_trans (at_most_largest f c) (test_lt (largest ls f) (pos n) h) }

pub says_below : (ls : List Loop) (n : ℕ) (f : Form) → Turning ls → Below ls n f → below ls n f ≡ true
unfolding below largest value
says_below ls n f t b =
    let r = reached f.x t in
    ap (λ z. lt_z (f.k +ℤ z) (pos n)) (sym r.most_is) ∙ lt_test (b.always r.counters r.choice)

-- where it says no, some choice brings the form to the count or above
pub record Reaches (ls : List Loop) (n : ℕ) (f : Form) : Type 0 where
  pub counters : List ℤ
  pub choice : Choice ls counters
  pub there : pos n ≤ℤ value f counters

pub not_below : (ls : List Loop) (n : ℕ) (f : Form) → Turning ls → below ls n f ≡ false → Reaches ls n f
unfolding below largest value
not_below ls n f t h =
    let r = reached f.x t in
    record { counters = r.counters; choice = r.choice; there = test_not_lt (f.k +ℤ terms f.x r.counters) (pos n) (ap (λ z. lt_z (f.k +ℤ z) (pos n)) r.most_is ∙ h) }
