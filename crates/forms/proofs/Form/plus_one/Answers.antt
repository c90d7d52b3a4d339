-- `forms::Form::plus_one` meets its contract.
use native.Mathlib.Omega.{arith}
use lib.IntN.{pos}
use Rattle.numbers.specs.Bounds.{Small}
use Rattle.numbers.proofs.Signs.{back_sum}
use Rattle.forms.specs.Form as F
use Rattle.forms.specs.Code.{form}
use Rattle.forms.proofs.Form.plus_one.Goals as goal

one : Small 1 (pos 1)
one = record { abs = omega arith }

pub returns : goal.returns
unfolding F.plus_one
returns c =
    λ i. record { k = back_sum c.requires.k_small one tt tt tt i; x = (form c.args.self).x }
