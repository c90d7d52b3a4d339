-- `read_records::kinds` meets its contract: its table is the definition's.
use mathlib.Core.Path.{refl}
use Rattle.kernel.specs.Reading.{table}
use Rattle.read_records.specs.View.{kind_of}
use Rattle.read_records.proofs.kinds.Goals as goal

pub invariant_of-result : goal.invariant_of-result
unfolding table kind_of
invariant_of-result c = record { table = refl }
