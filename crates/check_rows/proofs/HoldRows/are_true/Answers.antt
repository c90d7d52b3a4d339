-- `check_rows::HoldRows::are_true` meets its contract.
use mathlib.Core.Path.{sym, ◌∙◌}
use Rattle.kernel.specs.Ledger as L
use Rattle.check_ledger.specs.View.{ledger}
use Rattle.check_rows.proofs.HoldRows.are_true.Goals as goal

pub returns-then-positions_true : goal.returns-then-positions_true
unfolding L.rows_true L.each ledger
returns-then-positions_true c =
    c.buffers_true.ensures ∙ rw (sym (c.positions_true.ensures c.args.self.buffers) ∙ c.if-positions_true.true)

pub returns-else-positions_true : goal.returns-else-positions_true
unfolding L.rows_true
returns-else-positions_true c =
    rw (sym (c.positions_true.ensures c.args.self.buffers) ∙ c.if-positions_true.false) c.if-positions_true.false
