-- The limit of a loop that fits, as the code reckons it: 64 bits are enough.
use Prim.Native.Nat.{◌^◌}
use mathlib.Core.Path.{◌≡◌, sym, subst, ◌∙◌}
use native.Mathlib.Omega.{arith}
use lib.IntN.{ℤ, pos, ◌+ℤ◌, ◌*ℤ◌}
use mir.Syntax.{w64}
use mir.Val.{SFits, to_z}
use mir.Facts.{to_z_pos}
use Rattle.numbers.specs.Bounds.{Small}
use Rattle.numbers.proofs.Signs.{back, small_add, small_mul, small_back, sum_back, fits, as_it_is}
use Rattle.forms.specs.Form as F
use Rattle.forms.specs.declared.Loop.{Loop}
use Rattle.forms.specs.Code.{loop}
use Rattle.kernel.specs.Guarantees.{LoopFits}

module _ (l : Loop) (h : LoopFits (loop l)) where
  -- the passes, as the cast leaves them
  abbrev passes : ℤ
  passes = to_z w64 l.passes

  number : passes ≡ pos l.passes
  number = to_z_pos w64 (omega (arith, h.few))

  passes_small : Small (2 ^ 17) (pos l.passes)
  passes_small = record { abs = omega (arith, h.few) }

  first_small : Small (2 ^ 16) l.first
  first_small = record { abs = h.first_small }

  step_small : Small (2 ^ 16) l.step
  step_small = record { abs = h.step_small }

  pub step_back_small : Small (2 ^ 16) (back l.step)
  step_back_small = small_back step_small

  pub step_as : back l.step ≡ l.step
  step_as = as_it_is step_small tt

  pub sum_fits : SFits w64 (back l.first +ℤ back (back l.step *ℤ passes))
  sum_fits = rw number (fits (sum_back first_small (small_mul step_back_small passes_small)) tt)

  -- the limit
  abbrev pub reckoned : ℤ
  reckoned = back (back l.first +ℤ back (back l.step *ℤ passes))

  pub limit_as : reckoned ≡ F.limit (loop l)
  unfolding F.limit F.counter
  limit_as =
      let m = small_mul step_small passes_small in
      (λ i. back (as_it_is first_small tt i +ℤ back (step_as i *ℤ number i)))
      ∙ (λ i. back (l.first +ℤ as_it_is m tt i))
      ∙ as_it_is (small_add first_small m) tt

  pub limit_small : Small (2 ^ 16) reckoned
  limit_small = subst (Small (2 ^ 16)) (sym limit_as) (record { abs = h.limit_small })
