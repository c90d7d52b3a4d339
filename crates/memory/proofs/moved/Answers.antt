-- `memory::moved` meets its contract: the places of a side's streams, added up.
use mathlib.Core.Path.{◌≡◌, sym, ap, ◌∙◌}
use borrow.Author.Rules.{rules}
use lib.ListN.{get_or}
use Rattle.kernel.specs.Named.{side}
use Rattle.memory.specs.Sizes.{declared}
use Rattle.memory.proofs.Rows.{places_moved}
use Rattle.memory.proofs.moved.Goals as goal

pub returns : goal.returns
returns c =
    λ s e. c.summed.ensures (λ q. get_or s.places q 0) (λ j r h p. let k : r ≡ get_or c.args.places.now j 0 = search rules in k ∙ ap (λ ps. get_or ps j 0) (sym e)) ∙ places_moved (side c.args.side) s 0 (declared c.args.arrays)
