-- `ArrayTable::side` meets its contract: what the number of the array's side says.
use mathlib.Core.Path.{ap, ◌∙◌}
use Rattle.kernel.specs.File.{side_of}
use Rattle.kernel.specs.Named.{sided}
use Rattle.parts.specs.Arrays.{side_there}
use Rattle.parts.proofs.Siding.{kept_side}
use Rattle.parts.proofs.ArrayTable.side.Goals as goal

pub returns : goal.returns
unfolding side_of
returns c =
    c.ok.ensures.value ∙ kept_side c.try_from.result ∙ ap side_there c.try_from.ensures ∙ ap (λ w. side_there (sided w)) c.side_in.ensures
