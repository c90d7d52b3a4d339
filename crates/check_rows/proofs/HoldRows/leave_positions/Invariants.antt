use Prim.Native.Nat.{ℕ}
use mathlib.Core.Path.{◌≡◌}
use Rattle.forms.specs.Code.{form}
use Rattle.check_ledger.specs.View.{Bounded}
use Rattle.check_ledger.proofs.Loops.{Written}
use Rattle.check_rows.specs.Changes.{with_change}
use Rattle.check_rows.proofs.Changes.{first_changed}
use Rattle.check_rows.proofs.HoldRows.leave_positions.Given as goal

abbrev pub invariant-loop-i : goal.invariant-loop-i
invariant-loop-i l =
    Written form (first_changed (with_change l.change) form l.self.ledger.now.positions) l.self.arrays l.i l.l.positions × (l.l.buffers ≡ l.initial.l.buffers) × ((n : ℕ) → Bounded n l.initial.l → Bounded n l.l)
