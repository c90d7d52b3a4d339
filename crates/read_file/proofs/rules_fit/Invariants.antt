use mathlib.Core.Path.{◌≡◌}
use lib.ListN.{length, drop}
use Rattle.kernel.specs.File.{Kernel}
use Rattle.kernel.specs.Reading.{rules_fit}
use Rattle.parts.specs.Tables.{rows}
use Rattle.read_file.proofs.rules_fit.Given as goal

abbrev pub invariant-loop-i : goal.invariant-loop-i
invariant-loop-i l = (K : Kernel) → length K.arrays ≡ l.counts.a → K.buffers ≡ l.counts.b → rules_fit K l.i (drop l.i (rows l.rules)) ≡ rules_fit K 0 (rows l.rules)
