-- A file that reads leaves room: its forms and loops are small enough for all that is reckoned with them in 64 bits.
use Prim.Native.Nat.{ℕ, ◌+◌, ◌-◌, ◌*◌, ◌≤◌, ◌<◌, ◌^◌}
use mathlib.Core.Path.{◌≡◌, sym, ap, subst, ◌∙◌}
use mathlib.Core.Logic.{◌⊎◌, inl, inr}
use native.Mathlib.Omega.{arith}
use native.Mathlib.Nat as NatL
use lib.Dec.{T, leb, leb→le}
use lib.IntN.{ℤ, pos, nat_abs, ◌+ℤ◌, ◌*ℤ◌, one, *ℤ-one}
use Rattle.numbers.specs.Bounds.{Small}
use Rattle.numbers.proofs.Ring.{ring}
use Rattle.numbers.proofs.Order.{up, down, one_zero, abs_parts, add_parts, abs_mul}
use Rattle.numbers.proofs.Signs.{small_add, small_mul}
use Rattle.forms.specs.Form.{coefficient, counter, limit, last}
use Rattle.forms.specs.declared.Form.{Form}
use Rattle.forms.specs.declared.Loop.{Loop}
use Rattle.forms.specs.Code.{form, loop, Within, Turns}
use Rattle.kernel.specs.Guarantees.{FormSmall, LoopFits}

small : {n : ℕ} {z : ℤ} (m : ℕ) → nat_abs z ≤ n → T (leb n m) → Small m z
small {n} m h t = record { abs = NatL.le_trans h (leb→le n m t) }

pub form_room : (f : Form) → FormSmall (form f) → Within (2 ^ 50) (2 ^ 33) f
unfolding coefficient
form_room f s = record {
  k_small = small (2 ^ 50) s.k_small tt;
  x_small = λ level. small (2 ^ 33) (s.x_small level) tt;
}

-- what is left where s is taken away again
apart : (a s : ℤ) → nat_abs a ≤ nat_abs (a +ℤ s) + nat_abs s
apart a s = by (one_zero a)
  where
    by : (up a ≡ 0) ⊎ (down a ≡ 0) → nat_abs a ≤ nat_abs (a +ℤ s) + nat_abs s
    by (inl z) = omega (arith, z, abs_parts a, abs_parts (a +ℤ s), abs_parts s, add_parts a s)
    by (inr z) = omega (arith, z, abs_parts a, abs_parts (a +ℤ s), abs_parts s, add_parts a s)

some_steps : (f s m u : ℤ) → f +ℤ s *ℤ m +ℤ s *ℤ u ≡ f +ℤ s *ℤ (m +ℤ u)
some_steps f s m u = simp ring

one_step : (f s m : ℤ) → f +ℤ s *ℤ m +ℤ s ≡ f +ℤ s *ℤ (m +ℤ pos 1)
unfolding one
one_step f s m = ap (λ z. f +ℤ s *ℤ m +ℤ z) (sym (*ℤ-one s)) ∙ some_steps f s m (pos 1)

limit_next : (l : Loop) → 1 ≤ l.passes → last (loop l) +ℤ l.step ≡ limit (loop l)
unfolding last limit counter
limit_next l h =
    let e : l.passes - 1 + 1 ≡ l.passes = omega arith in
    one_step l.first l.step (pos (l.passes - 1)) ∙ ap (λ n. l.first +ℤ l.step *ℤ pos n) e

pub loop_room : (l : Loop) → LoopFits (loop l) → Turns l
loop_room l s = record {
  some = s.some;
  few = s.few;
  first_small = small (2 ^ 16) s.first_small tt;
  step_small = small (2 ^ 16) s.step_small tt;
  last_small = record {
    abs = NatL.le_trans (apart (last (loop l)) l.step) (NatL.add-le-add (subst (λ z. nat_abs z ≤ 65536) (sym (limit_next l s.some)) s.limit_small) s.step_small);
  };
}

-- ---- a counter lies between its loop's first value and its limit

between_ends : (f s m d : ℤ) → (m +ℤ d) *ℤ (f +ℤ s *ℤ m) ≡ d *ℤ f +ℤ m *ℤ (f +ℤ s *ℤ (m +ℤ d))
between_ends f s m d = simp ring

at_most : (n : ℕ) → Small n (pos n)
at_most n = record { abs = NatL.le_refl n }

-- so the counter of every pass is small
pub counter_room : (l : Loop) → LoopFits (loop l) → (m : ℕ) → m < l.passes → Small (2 ^ 17) (counter (loop l) m)
unfolding counter limit
counter_room l s m h =
    let d = l.passes - m in
    let c = l.first +ℤ l.step *ℤ pos m in
    let e : m + d ≡ l.passes = omega arith in
    let start : Small 65536 l.first = record { abs = s.first_small } in
    let stop : Small 65536 (limit (loop l)) = record { abs = s.limit_small } in
    let weighed : pos l.passes *ℤ c ≡ pos d *ℤ l.first +ℤ pos m *ℤ limit (loop l)
    = ap (λ n. pos n *ℤ c) (sym e) ∙ between_ends l.first l.step (pos m) (pos d) ∙ ap (λ n. pos d *ℤ l.first +ℤ pos m *ℤ (l.first +ℤ l.step *ℤ pos n)) e in
    let sum : Small (d * 65536 + m * 65536) (pos d *ℤ l.first +ℤ pos m *ℤ limit (loop l))
    = small_add (small_mul (at_most d) start) (small_mul (at_most m) stop) in
    let most : l.passes * nat_abs c ≤ l.passes * 65536
    = subst (λ n. n ≤ l.passes * 65536) (abs_mul (pos l.passes) c) (subst (λ z. nat_abs z ≤ l.passes * 65536) (sym weighed) (NatL.le_trans sum.abs (omega (arith, e)))) in
    small (2 ^ 17) (NatL.le_of_mul-le-mul_left most (omega (arith, s.some))) tt
