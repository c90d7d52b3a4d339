-- `check_rows::row_held` meets its contract.
use mathlib.Core.Path.{refl}
use Rattle.parts.specs.Records.{rec}
use Rattle.check_rows.proofs.Stating.{states_nothing, states_something}
use Rattle.check_rows.proofs.row_held.Goals as goal

pub returns-then-r-eq-MINUS_ONE : goal.returns-then-r-eq-MINUS_ONE
returns-then-r-eq-MINUS_ONE c = states_nothing (rec c.args.r) c.if-r-eq-MINUS_ONE.true

pub returns : goal.returns
returns c = states_something (rec c.args.r) (record { array = c.args.r.q; index = c.form.result }) c.form.ensures refl c.if-r-eq-MINUS_ONE.false
