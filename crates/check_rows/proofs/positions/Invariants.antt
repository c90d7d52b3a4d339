use mathlib.Core.Path.{◌≡◌}
use mathlib.Core.List.{map}
use lib.ListN.{take, drop}
use Rattle.forms.specs.Code.{form}
use Rattle.kernel.specs.File as File
use Rattle.parts.specs.Tables.{rows}
use Rattle.check_ledger.proofs.Loops.{Written}
use Rattle.check_rows.specs.Changes.{Stated}
use Rattle.check_rows.proofs.positions.Given as goal

abbrev pub invariant-loop-i : goal.invariant-loop-i
invariant-loop-i l =
    Written form (λ i. map File.form (take i (drop l.from (rows l.records)))) l.n l.i l.l.positions × (l.l.buffers ≡ l.initial.l.buffers) × Stated l.l
