-- The sum so far: the terms of the levels passed.
use mathlib.Core.Path.{◌≡◌}
use Prim.Native.Nat.{◌+◌, ◌*◌, ◌^◌}
use lib.ListN.{take}
use lib.IntN.{◌+ℤ◌}
use Rattle.numbers.specs.Bounds.{Small}
use Rattle.forms.specs.Form as F
use Rattle.forms.proofs.Form.value.Given as goal

abbrev pub invariant-loop-level : goal.invariant-loop-level
invariant-loop-level l = record { sum_is : l.sum ≡ l.self.k +ℤ F.terms (take l.level l.self.x) l.counters; small : Small (2 ^ 50 * (l.level + 1)) l.sum }
