-- `forms::Form::below` meets its contract.
use mathlib.Core.Path.{◌∙◌}
use lib.Signed.{lt_z}
use Rattle.numbers.proofs.Signs.{as_returned}
use Rattle.forms.specs.Form as F
use Rattle.forms.proofs.Form.below.Goals as goal

pub returns : goal.returns
unfolding F.below
returns c =
    let top_is = as_returned {z = c.largest.result} c.largest.type_inv ∙ c.largest.ensures in
    let n_is = as_returned {z = c.from.result} c.from.type_inv ∙ c.from.ensures in
    λ i. lt_z (top_is i) (n_is i)
