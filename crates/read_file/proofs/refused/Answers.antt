-- `read_file::refused` meets its contract.
use mathlib.Core.Path.{refl}
use Rattle.kernel.specs.Named as Named
use Rattle.read_file.proofs.refused.Goals as goal

pub returns : goal.returns
unfolding Named.unread Named.section_of
returns c = refl
