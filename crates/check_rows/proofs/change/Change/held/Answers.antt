-- `check_rows::change::Change::held` meets its contract.
use mathlib.Core.Path.{sym, ap, ◌∙◌}
use mathlib.Core.Option.{some}
use Rattle.kernel.specs.Ledger as L
use Rattle.check_ledger.specs.View.{held}
use Rattle.check_rows.specs.Changes.{with_change}
use Rattle.check_rows.proofs.change.Change.held.Goals as goal

pub returns-in_err-h : goal.returns-in_err-h
unfolding held L.each_held
returns-in_err-h c = ap held c.from_residual.ensures ∙ ap (λ b. L.each_held (with_change c.args.self) (held b)) (sym (c.in_err-h.was))

pub returns : goal.returns
unfolding held L.each_held
returns c =
    ap (λ f. some (L.held c.in_ok-h.h.array f)) c.form-index.ensures.0 ∙ ap (λ b. L.each_held (with_change c.args.self) (held b)) (sym (c.in_ok-h.was))
