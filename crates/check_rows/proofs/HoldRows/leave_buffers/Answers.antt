-- `check_rows::HoldRows::leave_buffers` meets its contract. Invariant: the first i buffers hold what those of the rows hold, so changed.
use native.Mathlib.Omega.{arith}
use Rattle.std.proofs.Common.{None}
use Rattle.kernel.specs.Ledger as L
use Rattle.check_ledger.specs.View.{held}
use Rattle.check_rows.specs.Changes.{with_change}
use Rattle.check_rows.proofs.Changes.{changed_more}
use Rattle.check_rows.proofs.HoldRows.leave_buffers.Goals as goal

pub held-requires : goal.held-requires
held-requires c = c.args.self.stated.at_buffer c.loop-i.i

pub loop-i-preserved : goal.loop-i-preserved
loop-i-preserved c =
    let k = c.held in
    let l = c.loop-i.invariant in (
      changed_more (L.each_held (with_change c.args.change)) held _ None k.result (omega (arith, c.args.self.stated.whole.1, c.args.self.few_buffers, c.loop-i-test.true)) c.loop-i-test.true (omega arith) k.ensures l.0,
      l.1,
    )
