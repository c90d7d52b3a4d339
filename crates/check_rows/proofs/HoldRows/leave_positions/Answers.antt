-- `check_rows::HoldRows::leave_positions` meets its contract. Invariant: the first i positions are those of the rows changed, and bounds are kept.
use native.Mathlib.Omega.{arith}
use Rattle.forms.specs.Code.{form}
use Rattle.check_ledger.specs.View.{no_form}
use Rattle.check_ledger.proofs.Bounds.{within_wider, put_bounded}
use Rattle.check_rows.proofs.Changes.{changed_more}
use Rattle.check_rows.proofs.HoldRows.leave_positions.Goals as goal

pub loop-i-preserved : goal.loop-i-preserved
loop-i-preserved c =
    let k = c.form in
    let l = c.loop-i.invariant in (
      changed_more _ form _ no_form k.result (omega (arith, c.args.self.stated.whole.0, c.args.self.few_arrays, c.loop-i-test.true)) c.loop-i-test.true (omega arith) k.ensures.0 l.0,
      l.1,
      λ n h. put_bounded (l.2 n h) c.loop-i.i _ (within_wider k.ensures.1 (omega arith) (omega arith)),
    )
