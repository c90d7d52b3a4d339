-- `parts::length_of` meets its contract.
use Rattle.kernel.specs.File.{numbers}
use Rattle.parts.proofs.ArrayTable.length.Goals as goal

pub returns : goal.returns
unfolding numbers
returns c = c.number.ensures
