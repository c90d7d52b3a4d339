-- `read_records::sided` meets its contract.
use mathlib.Core.Path.{ap, ◌∙◌}
use Rattle.std.specs.Prelude.{is_ok}
use Rattle.read_records.proofs.Tests.{sided_ok}
use Rattle.read_records.proofs.sided.Goals as goal

pub returns : goal.returns
returns c = c.is_ok.ensures.value ∙ ap is_ok c.try_from.ensures ∙ sided_ok c.args.code
