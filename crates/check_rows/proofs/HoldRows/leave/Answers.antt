-- `check_rows::HoldRows::leave` meets its contract.
use mathlib.Core.Path.{ap, ◌∙◌}
use mathlib.Core.List.{map}
use lib.ListN.{take}
use Rattle.forms.specs.Code.{form}
use Rattle.check_ledger.proofs.Bounds.{bounded_same}
use Rattle.check_rows.proofs.Changes.{each_right}
use Rattle.check_rows.proofs.HoldRows.leave.Goals as goal

pub returns : goal.returns
returns c =
    let s = c.args.self in
    let p = c.leave_positions.ensures in
    let q = c.leave_buffers.ensures in (
      each_right _ s.arrays s.buffers s.ledger.now _ (ap (λ ps. map form (take s.arrays ps)) q.1 ∙ p.0) q.0,
      λ n h. bounded_same (p.2 n h) q.1,
    )
