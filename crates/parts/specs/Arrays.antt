-- The arrays of a file, and the two measures of an array: its cells in an array memory, its items in a stream memory.
use Rattle.std.specs.Prelude.{ℕ, ◌+◌, ◌*◌, ◌/◌, ◌≤◌, ◌≡◌, List, length, Option, None, Some, Result, Ok, Err}
use Rattle.kernel.specs.File.{Rec, length_of, count_of}
use Rattle.numbers.specs.Result.{ok}
use Rattle.kernel.specs.Reading.{arrays_fit}
use Rattle.kernel.specs.Guarantees.{All, ArrayFits}
use Rattle.kernel.specs.declared.codes.Side.{Side}
use Rattle.kernel.specs.declared.codes.NoCode.{NoCode}
use Rattle.parts.specs.declared.Measure.{Measure}
use Rattle.parts.specs.declared.Measure.TheVariants.{Cells, Items}
use Rattle.parts.specs.Records.{record_at}
use Rattle.parts.specs.Parts.{records_in}

-- the first n array records
abbrev pub arrays_of : (file : List ℕ) (n : ℕ) → List Rec
arrays_of file n = records_in file (record { at = 3; count = n })

-- the record of array j
abbrev pub array_at : (file : List ℕ) (j : ℕ) → Rec
array_at file j = record_at file (3 + 8 * j)

-- array j is in the file
abbrev pub HasArray : (file : List ℕ) (j : ℕ) → Type 0
HasArray file j = 11 + 8 * j ≤ length file / 4

-- the side of an array; none of what stands past the last
unfoldable pub side_there : Result Side NoCode → Option Side
side_there (Ok s) = Some s
side_there (Err e) = None

-- reading has found each of n arrays right
abbrev pub Fitting : (file : List ℕ) (n : ℕ) → Type 0
Fitting file n = arrays_fit 0 0 0 (arrays_of file n) ≡ ok tt

-- what reading has found of a file's n arrays
pub record Arrays (file : List ℕ) (n : ℕ) : Type 0 where
  pub few : n ≤ 8
  pub there : 3 + 8 * n ≤ length file / 4
  pub fit : All ArrayFits (arrays_of file n)

unfoldable pub measure : Measure → Rec → ℕ
measure Cells = length_of
measure Items = count_of
