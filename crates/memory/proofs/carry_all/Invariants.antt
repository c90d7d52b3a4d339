use Prim.Native.Nat.{◌*◌, ◌≤◌}
use mathlib.Core.Path.{◌≡◌}
use lib.ListN.{drop}
use Rattle.kernel.specs.Named.{side}
use Rattle.kernel.specs.Memory as Memory
use Rattle.memory.specs.Sizes.{declared}
use Rattle.memory.specs.Items.{carried}
use Rattle.memory.proofs.carry_all.Given as goal

abbrev pub invariant-loop-q : goal.invariant-loop-q
invariant-loop-q l =
    (l.items ≤ 4096 * l.q) × (l.cells ≤ 4096 * l.q)
    × (carried (side l.side) l.items (Memory.cells (side l.side) l.cells (drop l.q (declared l.arrays))) l.from l.to
    ≡ carried (side l.side) 0 (Memory.cells (side l.side) 0 (declared l.arrays)) l.from l.initial.to)
