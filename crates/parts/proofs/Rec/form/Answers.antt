-- `Rec::form` meets its contract: each number as a signed one.
use mathlib.Core.Path.{◌∙◌}
use Rattle.numbers.proofs.Signs.{as_returned}
use Rattle.kernel.specs.File as File
use Rattle.parts.proofs.Rec.form.Goals as goal

pub returns : goal.returns
unfolding File.form
returns c =
    let k = c.signed in
    λ i. record { k = (as_returned {z = k.result} k.type_inv ∙ k.ensures) i; x = c.signed_row.ensures i }
