-- `run_loops::counter` meets its contract: a loop that reads leaves room for the counter of each pass.
use mathlib.Core.Path.{◌≡◌, ◌∙◌}
use Prim.Native.Nat.{◌^◌}
use native.Mathlib.Omega.{arith}
use lib.IntN.{pos, ◌+ℤ◌, ◌*ℤ◌}
use mir.Syntax.{w64}
use mir.Val.{to_z}
use mir.Facts.{to_z_pos}
use Rattle.numbers.specs.Bounds.{Small}
use Rattle.numbers.proofs.Signs.{back, small_add, small_mul, small_back, sum_back, fits, as_it_is}
use Rattle.forms.specs.Form as F
use Rattle.parts.proofs.Room.{counter_room}
use Rattle.run_loops.proofs.counter.Goals.{Start}
use Rattle.run_loops.proofs.counter.Goals as goal

-- the pass, as the cast leaves it; and the loop's ends
module _ (s : Start) where
  number : to_z w64 s.args.m ≡ pos s.args.m
  number = to_z_pos w64 (omega (arith, s.requires.0.few, s.requires.1))

  number_small : Small (2 ^ 17) (pos s.args.m)
  number_small = record { abs = omega (arith, s.requires.0.few, s.requires.1) }

  first_small : Small (2 ^ 16) s.args.l.first
  first_small = record { abs = s.requires.0.first_small }

  step_small : Small (2 ^ 16) s.args.l.step
  step_small = record { abs = s.requires.0.step_small }

pub overflow_mul-result : goal.overflow_mul-result
overflow_mul-result c =
    rw (number (goal.at.overflow_mul-result c).Start) (fits (small_mul (small_back (step_small (goal.at.overflow_mul-result c).Start)) (number_small (goal.at.overflow_mul-result c).Start)) tt)

pub overflow_add-result : goal.overflow_add-result
overflow_add-result c =
    rw (number (goal.at.overflow_add-result c).Start) (fits (sum_back (first_small (goal.at.overflow_add-result c).Start) (small_mul (small_back (step_small (goal.at.overflow_add-result c).Start)) (number_small (goal.at.overflow_add-result c).Start))) tt)

pub returns : goal.returns
unfolding F.counter
returns c =
    let m = small_mul (step_small (goal.at.returns c).Start) (number_small (goal.at.returns c).Start) in (
      (λ i. back (as_it_is (first_small (goal.at.returns c).Start) tt i +ℤ back (as_it_is (step_small (goal.at.returns c).Start) tt i *ℤ number (goal.at.returns c).Start i)))
          ∙ (λ i. back (c.args.l.first +ℤ as_it_is m tt i))
          ∙ as_it_is (small_add (first_small (goal.at.returns c).Start) m) tt,
      counter_room c.args.l c.requires.0 c.args.m c.requires.1,
    )
