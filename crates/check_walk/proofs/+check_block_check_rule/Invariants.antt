-- The walk of a block has come here. Derivation records left fall: thrice of them for a for or an if, one more for a rule, and two more for a block.
use Prim.Native.Nat.{◌+◌, ◌-◌, ◌*◌}
use mathlib.Core.Path.{◌≡◌}
use mathlib.Core.List.{List}
use Rattle.forms.specs.Code.{loops}
use Rattle.kernel.specs.Derivation as S
use Rattle.check_take.specs.View.{standing}
use Rattle.check_walk.specs.View.{Goes, Further}
use Rattle.check_walk.proofs.+check_block_check_rule.Given as goal

abbrev pub decreases-check_block : goal.decreases-check_block
decreases-check_block l = 3 * (l.kernel.counts.d - l.from.rule) + 2

abbrev pub decreases-check_rule : goal.decreases-check_rule
decreases-check_rule l = 3 * (l.kernel.counts.d - l.at.rule) + 1

abbrev pub decreases-check_for : goal.decreases-check_for
decreases-check_for l = 3 * (l.kernel.counts.d - l.at.rule)

abbrev pub decreases-check_if : goal.decreases-check_if
decreases-check_if l = 3 * (l.kernel.counts.d - l.at.rule)

abbrev pub invariant-check_block-loop-at : goal.invariant-check_block-loop-at
invariant-check_block-loop-at l =
    Further l.kernel l.initial.at l.at l.l × ((os : List S.Opened) → S.loops os ≡ loops l.ls → Goes l.kernel os l.initial.at l.initial.l os (standing l.at l.l))

abbrev pub decreases-check_block-loop-at : goal.decreases-check_block-loop-at
decreases-check_block-loop-at l = l.kernel.counts.d - l.at.rule
