-- `check_rows::rows_fit` meets its contract.
use mathlib.Core.Path.{sym, ◌∙◌}
use Rattle.kernel.specs.Named.{row}
use Rattle.check_rows.proofs.rows_fit.Goals as goal

pub returns-then-in_order : goal.returns-then-in_order
unfolding row
returns-then-in_order c = rw (sym c.in_order.ensures ∙ c.if-in_order.true) c.in_order-then-in_order.ensures

pub returns-else-in_order : goal.returns-else-in_order
unfolding row
returns-else-in_order c = rw (sym c.in_order.ensures ∙ c.if-in_order.false) c.if-in_order.false
