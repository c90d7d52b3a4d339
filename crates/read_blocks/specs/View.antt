-- The code's open blocks, seen as those of the definitions.
use Rattle.std.specs.Prelude.{ℕ, List, Result, Ok, Err}
use Rattle.numbers.specs.Result as R
use Rattle.numbers.specs.Result.{ok, stop}
use Rattle.kernel.specs.Reading as Reading
use Rattle.kernel.specs.Named.{misread}
use Rattle.kernel.specs.declared.refusals.Misread.{Misread}
use Rattle.read_blocks.specs.declared.open.OpenBlocks.{OpenBlocks}
use Rattle.read_blocks.specs.Blocks.{first}

unfoldable pub opens : OpenBlocks → List Reading.Open
opens n = first n.blocks n.depth

-- what a step answered and the blocks that it left: those that are open, or the number of a refusal
unfoldable pub nested : Result (Unit {0}) Misread → OpenBlocks → R.Result ℕ (List Reading.Open)
nested (Ok t) n = ok (opens n)
nested (Err m) n = stop (misread m)
