-- The code's table and scope, seen as those of the definitions.
use Rattle.std.specs.Prelude.{ℕ, ◌-◌, Bool, ◌≡◌, List, [], map, get_or}
use Rattle.numbers.specs.Lists.{alike}
use Rattle.kernel.specs.File.{Rec, numbers}
use Rattle.kernel.specs.Reading as Reading
use Rattle.kernel.specs.Reading.{table, holds}
use Rattle.parts.specs.Arrays.{arrays_of}
use Rattle.read_records.specs.declared.Kind.{Kind}
use Rattle.read_records.specs.declared.Kind.TheVariants.{Either, ArrayOnly, StreamOnly, Unused, Register, AnInput, AnOutput, Term, Bound, AnOperator}
use Rattle.read_records.specs.declared.Scope.{Scope}

unfoldable pub kind_of : Kind → Reading.Kind
kind_of Either = Reading.either
kind_of ArrayOnly = Reading.array_only
kind_of StreamOnly = Reading.stream_only
kind_of Unused = Reading.unused
kind_of Register = Reading.register
kind_of AnInput = Reading.an_input
kind_of AnOutput = Reading.an_output
kind_of Term = Reading.term
kind_of Bound = Reading.bound
kind_of AnOperator = Reading.an_operator

-- the rows of a table are those of the definition
abbrev pub IsTable : List (List Kind) → Type 0
IsTable rows = map (map kind_of) rows ≡ table

-- what a field of a code's row may hold
unfoldable pub kind_at : (code field : ℕ) → Reading.Kind
kind_at code field = get_or (get_or table (code - 1) []) field Reading.unused

abbrev pub scope : Scope → Reading.Scope
scope c = record { streaming = c.streaming; registers = c.registers; arrays = arrays_of c.arrays.file.now c.arrays.count }

-- whether a record is what a code's row says
unfoldable pub row : Reading.Scope → (code : ℕ) → Rec → Bool
row c code r = alike (holds c) (get_or table (code - 1) []) (numbers r)
