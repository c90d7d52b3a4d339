use mathlib.Core.Path.{◌≡◌}
use mathlib.Core.List.{map}
use lib.ListN.{take, drop}
use Rattle.kernel.specs.Derivation.{row_held}
use Rattle.parts.specs.Tables.{rows}
use Rattle.check_ledger.specs.View.{held}
use Rattle.check_ledger.proofs.Loops.{Written}
use Rattle.check_rows.specs.Changes.{Stated}
use Rattle.check_rows.proofs.buffers.Given as goal

abbrev pub invariant-loop-i : goal.invariant-loop-i
invariant-loop-i l =
    Written held (λ i. map row_held (take i (drop l.from (rows l.records)))) l.n l.i l.l.buffers × (l.l.positions ≡ l.initial.l.positions) × Stated l.l
