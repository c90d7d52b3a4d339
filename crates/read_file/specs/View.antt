-- What the tests of a section's records come to, and what reading comes to, as the definitions give it.
use Rattle.std.specs.Prelude.{ℕ, List, Result, Ok, Err}
use Rattle.numbers.specs.Result as R
use Rattle.numbers.specs.Result.{ok, stop}
use Rattle.kernel.specs.File as File
use Rattle.kernel.specs.Reading.{Fault}
use Rattle.kernel.specs.Named.{unread}
use Rattle.kernel.specs.declared.refusals.Unread.{Unread}
use Rattle.parts.specs.Parts.{kernel}
use Rattle.parts.specs.declared.Kernel.{Kernel}

unfoldable pub checked : Result (Unit {0}) Unread → R.Result Fault (Unit {0})
checked (Ok t) = ok tt
checked (Err u) = stop (unread u)

unfoldable pub answer : List ℕ → Result Kernel Unread → R.Result Fault File.Kernel
answer file (Ok k) = ok (kernel file k.counts)
answer file (Err u) = stop (unread u)
