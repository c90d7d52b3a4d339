-- `check_rules::use_asked` meets its contract.
use mathlib.Core.Path.{ap, ◌∙◌}
use Rattle.numbers.specs.Result.{need}
use Rattle.forms.specs.Code.{loops}
use Rattle.kernel.specs.Ledger as L
use Rattle.kernel.specs.Named.{misfit}
use Rattle.check_ledger.specs.View.{held}
use Rattle.check_rules.proofs.use_asked.Goals as goal

pub returns : goal.returns
unfolding misfit
returns c =
    let a = c.args in
    c.need.ensures ∙ ap (need 13) (c.is_in.ensures ∙ ap (λ f. L.holds_just (loops a.around) (L.held a.a.q f) (held a.h)) c.form.ensures)
