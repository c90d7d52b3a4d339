-- What the code finds in a file, seen as what reading is defined to give.
use Rattle.std.specs.Prelude.{ℕ, ◌-◌, ◌*◌, ◌/◌, cond, List, length, drop, ltb, Option, Some, None, Result, Ok, Err}
use Rattle.numbers.specs.Result as R
use Rattle.numbers.specs.Result.{ok, stop}
use Rattle.numbers.specs.Areas.{word}
use Rattle.kernel.specs.File as File
use Rattle.kernel.specs.Reading.{Fault, records}
use Rattle.kernel.specs.Named.{unread}
use Rattle.kernel.specs.declared.refusals.Unread.{Unread}
use Rattle.parts.specs.Parts.{kernel}
use Rattle.parts.specs.declared.Sections.{Sections}
use Rattle.read_counts.specs.declared.Counted.{Counted}

-- the number at a place, none where fewer than four bytes are left
unfoldable pub number : List ℕ → ℕ → Option ℕ
number file place = cond (ltb place (length file / 4)) (Some (word file place)) None

-- a count, and what follows it; or a refusal
unfoldable pub counted : List ℕ → Result Counted Unread → R.Result Fault (ℕ × List ℕ)
counted ws (Ok f) = ok (f.count, drop f.next ws)
counted ws (Err u) = stop (unread u)

-- a section's records, and what follows them; or a refusal
unfoldable pub listed : List ℕ → Result Counted Unread → R.Result Fault (List File.Rec × List ℕ)
listed ws (Ok f) = ok (records f.count (drop (f.next - 8 * f.count) ws), drop f.next ws)
listed ws (Err u) = stop (unread u)

unfoldable pub answer : List ℕ → Result Sections Unread → R.Result Fault File.Kernel
answer file (Ok s) = ok (kernel file s.counts)
answer file (Err u) = stop (unread u)
