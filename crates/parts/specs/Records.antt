-- A record: the code's, seen as the definitions', and the one that begins at a place of a file.
use Rattle.std.specs.Prelude.{ℕ, List, take, drop}
use Rattle.numbers.specs.Words.{words}
use Rattle.kernel.specs.File as File
use Rattle.parts.specs.declared.Rec.{Rec}

abbrev pub rec : Rec → File.Rec
rec r = record { code = r.code; p = r.p; q = r.q; k = r.k; x = r.x }

-- its eight numbers begin at word `place`
abbrev pub record_at : (file : List ℕ) (place : ℕ) → File.Rec
record_at file place = File.record_of (take 8 (drop place (words file)))
