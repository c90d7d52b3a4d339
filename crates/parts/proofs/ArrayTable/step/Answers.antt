-- `parts::step_of` meets its contract.
use mathlib.Core.Path.{ap, ◌∙◌}
use Rattle.numbers.specs.Words.{signed}
use Rattle.numbers.proofs.Signs.{as_returned}
use Rattle.kernel.specs.File.{numbers, step_of}
use Rattle.parts.proofs.ArrayTable.step.Goals as goal

pub returns : goal.returns
unfolding numbers step_of
returns c = as_returned {z = c.signed.result} c.signed.type_inv ∙ c.signed.ensures ∙ ap signed c.number.ensures
