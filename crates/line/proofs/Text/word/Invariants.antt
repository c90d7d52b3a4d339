-- The invariant: the word from byte i on stands before what was there.
use Rattle.std.proofs.Common.{ℕ, ◌+◌, ◌≡◌, List, ◌++◌, length, drop}
use Rattle.line.specs.View.{Shows}
use Rattle.line.proofs.Text.word.Given as goal

abbrev pub invariant-loop-i : goal.invariant-loop-i
invariant-loop-i l =
    (l.t.from + length l.w ≡ l.initial.t.from + l.i) × ((u : List ℕ) → Shows l.initial.t u → Shows l.t (drop l.i l.w ++ u))
