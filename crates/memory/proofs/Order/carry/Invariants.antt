use Prim.Native.Nat.{◌+◌, ◌-◌}
use mathlib.Core.Path.{◌≡◌}
use Rattle.kernel.specs.Named.{side}
use Rattle.kernel.specs.Memory.{listed}
use Rattle.memory.specs.Items.{carried, cell}
use Rattle.memory.proofs.Order.carry.Given as goal

abbrev pub invariant-loop-i : goal.invariant-loop-i
invariant-loop-i l =
    carried (side l.side) (l.self.items + l.i) (listed (cell l.self) l.i (l.self.count - l.i)) l.from l.to
    ≡ carried (side l.side) l.self.items (listed (cell l.self) 0 l.self.count) l.from l.initial.to
