-- What stands where in a file, by its counts: its four parts that hold records, and the kernel that they make.
use Rattle.std.specs.Prelude.{ℕ, ◌+◌, ◌*◌, ◌/◌, ◌≤◌, ◌≡◌, List, length, drop}
use Rattle.numbers.specs.Result.{ok}
use Rattle.numbers.specs.Words.{words}
use Rattle.kernel.specs.File.{Rec, Kernel}
use Rattle.kernel.specs.Reading.{records, read_file}
use Rattle.parts.specs.declared.Counts.{Counts}
use Rattle.parts.specs.declared.Part.{Part}

-- "Sections stand in a fixed order, each after its count": where the records of each begin, in numbers, and how many they are
abbrev pub arrays_part : Counts → Part
arrays_part c = record { at = 3; count = c.a }

abbrev pub array_part : Counts → Part
array_part c = record { at = 4 + 8 * c.a; count = c.s }

abbrev pub stream_part : Counts → Part
stream_part c = record { at = 5 + 8 * (c.a + c.s); count = c.t }

abbrev pub derivation_part : Counts → Part
derivation_part c = record { at = 6 + 8 * (c.a + c.s + c.t); count = c.d }

-- the records of a part
abbrev pub records_in : (file : List ℕ) → Part → List Rec
records_in file part = records part.count (drop part.at (words file))

-- the kernel that stands in a file of these counts
unfoldable pub kernel : (file : List ℕ) → Counts → Kernel
kernel file c = record {
  registers = c.r;
  buffers = c.b;
  arrays = records_in file (arrays_part c);
  array_program = records_in file (array_part c);
  stream_program = records_in file (stream_part c);
  derivation = records_in file (derivation_part c);
}

-- the file reads, with these counts
abbrev pub ReadAs : (file : List ℕ) → Counts → Type 0
ReadAs file c = read_file file ≡ ok (kernel file c)

-- counts in their ranges
pub record Few (c : Counts) : Type 0 where
  pub registers : c.r ≤ 32
  pub buffers : c.b ≤ 16
  pub arrays : c.a ≤ 8
  pub array_statements : c.s ≤ 256
  pub stream_statements : c.t ≤ 256
  pub rules : c.d ≤ 1024

-- and the sections are the whole file
pub record Fills (file : List ℕ) (c : Counts) : Type 0 where
  pub few : Few c
  pub whole : 6 + 8 * (c.a + c.s + c.t + c.d) ≡ length file / 4

-- a part of at most so many records lies in the file
pub record Lies (most : ℕ) (file : List ℕ) (part : Part) : Type 0 where
  pub inside : part.at + 8 * part.count ≤ length file / 4
  pub near : part.at ≤ 65536
  pub few : part.count ≤ most
