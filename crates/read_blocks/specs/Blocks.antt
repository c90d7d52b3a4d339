-- A row of the code's open blocks, seen as those of the definitions.
use Rattle.std.specs.Prelude.{ℕ, zero, suc, List, [], ◌∷◌, get_or}
use Rattle.kernel.specs.Reading as Reading
use Rattle.read_blocks.specs.declared.open.Open.{Open}
use Rattle.read_blocks.specs.declared.open.Open.TheVariants.{For, If, Else}

unfoldable pub block : Open → Reading.Open
block (For n) = Reading.open_for n
block If = Reading.open_if
block Else = Reading.open_else

-- the first d of them, innermost first
unfoldable pub first : List Open → (d : ℕ) → List Reading.Open
first bs zero = []
first bs (suc d) = block (get_or bs d If) ∷ first bs d
