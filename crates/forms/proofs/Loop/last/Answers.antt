-- `forms::Loop::last` meets its contract.
use mathlib.Core.Path.{◌≡◌, ◌∙◌}
use Prim.Native.Nat.{◌-◌, ◌^◌}
use native.Mathlib.Omega.{arith}
use lib.IntN.{pos, ◌+ℤ◌, ◌*ℤ◌}
use mir.Syntax.{w64}
use mir.Val.{to_z}
use mir.Facts.{to_z_pos}
use Rattle.numbers.specs.Bounds.{Small}
use Rattle.numbers.proofs.Signs.{back, small_add, small_mul, small_back, sum_back, fits, as_it_is}
use Rattle.forms.specs.Form as F
use Rattle.forms.proofs.Loop.last.Goals.{Start}
use Rattle.forms.proofs.Loop.last.Goals as goal

-- the number of the last pass, as the cast leaves it
module _ (s : Start) where
  number : to_z w64 (s.args.self.passes - 1) ≡ pos (s.args.self.passes - 1)
  number = let h = s.requires.few in to_z_pos w64 (omega arith)

  number_small : Small (2 ^ 17) (pos (s.args.self.passes - 1))
  number_small = let h = s.requires.few in record { abs = omega arith }

pub overflow_add-result : goal.overflow_add-result
overflow_add-result c =
    rw (number (goal.at.overflow_add-result c).Start) (fits (sum_back c.requires.first_small (small_mul (small_back c.requires.step_small) (number_small (goal.at.overflow_add-result c).Start))) tt)

pub returns : goal.returns
unfolding F.last F.counter
returns c =
    let m = small_mul c.requires.step_small (number_small (goal.at.returns c).Start) in
    (λ i. back (as_it_is c.requires.first_small tt i +ℤ back (as_it_is c.requires.step_small tt i *ℤ number (goal.at.returns c).Start i)))
    ∙ (λ i. back (c.args.self.first +ℤ as_it_is m tt i))
    ∙ as_it_is (small_add c.requires.first_small m) tt
