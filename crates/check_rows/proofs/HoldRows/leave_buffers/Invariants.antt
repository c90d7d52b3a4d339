use mathlib.Core.Path.{◌≡◌}
use Rattle.kernel.specs.Ledger as L
use Rattle.check_ledger.specs.View.{held}
use Rattle.check_ledger.proofs.Loops.{Written}
use Rattle.check_rows.specs.Changes.{with_change}
use Rattle.check_rows.proofs.Changes.{first_changed}
use Rattle.check_rows.proofs.HoldRows.leave_buffers.Given as goal

abbrev pub invariant-loop-i : goal.invariant-loop-i
invariant-loop-i l =
    Written held (first_changed (L.each_held (with_change l.change)) held l.self.ledger.now.buffers) l.self.buffers l.i l.l.buffers × (l.l.positions ≡ l.initial.l.positions)
