-- The sum so far: what the terms of the levels passed add at most.
use mathlib.Core.Path.{◌≡◌}
use Prim.Native.Nat.{◌+◌, ◌*◌, ◌^◌}
use lib.ListN.{take}
use lib.IntN.{◌+ℤ◌}
use Rattle.numbers.specs.Bounds.{Small}
use Rattle.forms.specs.Form as F
use Rattle.forms.specs.Code.{loops}
use Rattle.forms.proofs.Form.largest.Given as goal

abbrev pub invariant-loop-level : goal.invariant-loop-level
invariant-loop-level l = record { sum_is : l.sum ≡ l.self.k +ℤ F.most (take l.level l.self.x) (loops l.ls); small : Small (2 ^ 50 * (l.level + 1)) l.sum }
