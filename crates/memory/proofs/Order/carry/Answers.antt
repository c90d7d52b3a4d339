-- `memory::Order::carry` meets its contract. The invariant: carrying the items from here on makes what carrying all makes of the first area.
use Prim.Native.Nat.{◌+◌}
use mathlib.Core.Path.{◌∙◌}
use native.Mathlib.Omega.{arith}
use Rattle.kernel.specs.Named.{side}
use Rattle.memory.specs.Items.{cell}
use Rattle.memory.proofs.Carried.{items_next, items_over}
use Rattle.memory.proofs.Order.carry.Goals as goal

pub loop-i-preserved : goal.loop-i-preserved
loop-i-preserved c =
    let o = c.args.self in
    let v = c.loop-i in
    items_next (side c.args.side) c.args.from.now (cell o) o.items v.i o.count c.cell.result v.to c.carry_one.new.to c.loop-i-test.true c.cell.ensures c.carry_one.ensures ∙ v.invariant

pub returns : goal.returns
returns c =
    let o = c.args.self in
    let v = c.loop-i in
    items_over (side c.args.side) c.args.from.now (cell o) (o.items + v.i) v.i o.count v.to (omega arith) ∙ v.invariant
