-- `same` says yes exactly to equal forms, and no counters tell equal forms apart; `around` is `Around`.
use mathlib.Core.Path.{◌≡◌, sym, ap, subst, ◌∙◌}
use mathlib.Core.Bool.{true}
use mathlib.Core.List.{List}
use Prim.Native.Nat.{ℕ, ◌+◌, ◌-◌}
use native.Mathlib.Omega.{arith}
use lib.ListN.{get_or, drop}
use lib.Seq.{get_or-drop}
use lib.IntN.{ℤ, pos}
use Rattle.numbers.specs.Words.{equal}
use Rattle.numbers.specs.Lists.{alike}
use Rattle.numbers.proofs.Tests.{and_left, and_right, and_true, equal_eq, equal_refl, eq_equal, alike_eq, eq_alike, every_at, at_every}
use Rattle.forms.specs.Form.{Form, value, coefficient, Around, around, Loop, same, Choice, Equal}

pub same_eq : (around : List Loop) (f g : Form) → same around f g ≡ true → f ≡ g
unfolding same
same_eq around f g h = λ i. record {
  k = equal_eq f.k g.k (and_left (equal f.k g.k) (alike equal f.x g.x) h) i;
  x = alike_eq equal equal_eq f.x g.x (and_right (equal f.k g.k) (alike equal f.x g.x) h) i;
}

pub eq_same : (around : List Loop) {f g : Form} → f ≡ g → same around f g ≡ true
unfolding same
eq_same around e = and_true (eq_equal (ap (λ f. f.k) e)) (eq_alike equal equal_refl (ap (λ f. f.x) e))

-- ---- equal forms, by these laws alone

pub same_equal : (around : List Loop) (f g : Form) → same around f g ≡ true → Equal around f g
same_equal around f g h = record { all_five = same_eq around f g h }

pub equal_same : {around : List Loop} {f g : Form} → Equal around f g → same around f g ≡ true
equal_same {around} e = eq_same around e.all_five

pub equal_values : {around : List Loop} {f g : Form} → Equal around f g → (cs : List ℤ) → Choice around cs → value f cs ≡ value g cs
equal_values e cs c = ap (λ f. value f cs) e.all_five

-- ---- terms only for loops around

pub around_says : (n : ℕ) (f : Form) → around n f ≡ true → Around n f
unfolding around coefficient
around_says n f h = record { beyond = λ level l. at level (level - n) (omega arith) }
  where
    at : (level m : ℕ) → n + m ≡ level → get_or f.x level (pos 0) ≡ pos 0
    at level m e =
        sym (equal_eq (pos 0) (get_or f.x level (pos 0))
        (subst (λ i. equal (pos 0) (get_or f.x i (pos 0)) ≡ true) e
        (subst (λ z. equal (pos 0) z ≡ true) (get_or-drop n f.x m (pos 0)) (every_at (equal (pos 0)) (drop n f.x) (pos 0) h (equal_refl (pos 0)) m))))

pub says_around : (n : ℕ) (f : Form) → Around n f → around n f ≡ true
unfolding around coefficient
says_around n f a = at_every (equal (pos 0)) (drop n f.x) (pos 0) (λ m l. eq_equal (sym (get_or-drop n f.x m (pos 0) ∙ a.beyond (n + m) (omega arith))))
