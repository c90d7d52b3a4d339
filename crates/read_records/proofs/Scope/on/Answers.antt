-- `Scope::on` meets its contract.
use mathlib.Core.Path.{ap, ◌∙◌}
use Rattle.std.specs.Prelude.{Some}
use Rattle.std.specs.Option.{option_eq}
use Rattle.kernel.specs.contracts.codes.SidePartialEq.TheImpl.{eq-value}
use Rattle.kernel.specs.File as File
use Rattle.read_records.proofs.Tests.{on_side}
use Rattle.read_records.proofs.Scope.on.Goals as goal

pub returns : goal.returns
unfolding File.on File.side_of
returns c = c.eq.ensures ∙ ap (λ o. option_eq eq-value.it o (Some c.args.side)) c.side.ensures ∙ on_side _ c.args.side
