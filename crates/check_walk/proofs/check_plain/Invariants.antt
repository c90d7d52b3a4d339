use Prim.Native.Nat.{◌-◌, ◌<◌}
use mathlib.Core.Path.{◌≡◌}
use mathlib.Core.Logic.{◌⊎◌}
use mathlib.Core.List.{List}
use Rattle.forms.specs.Code.{loops}
use Rattle.kernel.specs.Derivation as S
use Rattle.check_take.specs.View.{standing, due, PlainOrNone}
use Rattle.check_walk.specs.View.{Goes, Further}
use Rattle.check_walk.proofs.check_plain.Given as goal

abbrev pub invariant-loop-at : goal.invariant-loop-at
invariant-loop-at l =
    Further l.kernel l.initial.at l.at l.l × ((os : List S.Opened) → S.loops os ≡ loops l.ls → Goes l.kernel os l.initial.at l.initial.l os (standing l.at l.l)) × ((l.initial.at.rule < l.at.rule) ⊎ PlainOrNone (due l.kernel l.at))

abbrev pub decreases-loop-at : goal.decreases-loop-at
decreases-loop-at l = l.kernel.counts.d - l.at.rule
