-- `check_rules::move_asked` meets its contract.
use mathlib.Core.Path.{ap, ◌∙◌}
use Rattle.numbers.specs.Result.{need}
use Rattle.kernel.specs.Named.{misfit}
use Rattle.check_rules.proofs.Needs.{something_held}
use Rattle.check_rules.proofs.move_asked.Goals as goal

pub returns : goal.returns
unfolding misfit
returns c = c.need.ensures ∙ ap (need 13) (c.is_some.ensures ∙ something_held c.args.h)
