-- `parts::loop_of` meets its contract: first, step and passes from three numbers of the record.
use mathlib.Core.Path.{◌∙◌}
use Rattle.numbers.proofs.Signs.{as_returned}
use Rattle.kernel.specs.File.{loop_of}
use Rattle.parts.proofs.Rec.for_loop.Goals as goal

pub returns : goal.returns
unfolding loop_of
returns c =
    let first = c.signed in
    let step = c.signed-2 in
    λ i. record {
      first = (as_returned {z = first.result} first.type_inv ∙ first.ensures) i;
      step = (as_returned {z = step.result} step.type_inv ∙ step.ensures) i;
      passes = c.passes.ensures i;
    }
