-- `ArrayTable::first` meets its contract.
use mathlib.Core.Path.{ap, ◌∙◌}
use lib.IntN.{pos}
use Rattle.numbers.proofs.Signs.{as_returned}
use Rattle.kernel.specs.File.{numbers}
use Rattle.parts.proofs.ArrayTable.first.Goals as goal

pub returns : goal.returns
unfolding numbers
returns c = as_returned {z = c.from.result} c.from.type_inv ∙ c.from.ensures ∙ ap pos c.number.ensures
