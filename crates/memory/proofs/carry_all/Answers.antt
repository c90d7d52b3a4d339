-- `memory::carry_all` meets its contract. The invariant: carrying the arrays from here on makes what carrying all makes of the first area.
use Prim.Native.Nat.{◌+◌}
use mathlib.Core.Path.{◌∙◌}
use native.Mathlib.Omega.{arith}
use lib.ListN.{drop}
use Rattle.numbers.specs.Words.{words}
use Rattle.numbers.proofs.Signs.{back, as_returned}
use Rattle.kernel.specs.Guarantees.{ArrayFits}
use Rattle.kernel.specs.Named.{side}
use Rattle.kernel.specs.Memory.{cells}
use Rattle.parts.specs.Arrays.{array_at}
use Rattle.parts.proofs.Arrays as Arrays
use Rattle.parts.proofs.Records.{record_next}
use Rattle.memory.specs.Sizes.{declared}
use Rattle.memory.specs.Items.{carried}
use Rattle.memory.proofs.Rows.{found}
use Rattle.memory.proofs.Carried.{in_order, order_next, order_other, arrays_over}
use Rattle.memory.proofs.carry_all.Goals.{In-loop-q, then-eq, else-eq}
use Rattle.memory.proofs.carry_all.Goals as goal

-- the array of a turn, as reading has found it
array_fits : (c : In-loop-q) → ArrayFits (array_at c.args.arrays.file.now c.loop-q.q)
array_fits c =
    let t = c.args.arrays in
    Arrays.array_fits t.file.now t.count c.loop-q.q c.loop-q-test.true (Arrays.arrays t)

pub carry-requires : goal.carry-requires
carry-requires c =
    let t = c.args.arrays in
    let its = array_fits (goal.at.carry-requires c).In-loop-q in
    record {
      ordered = λ i h. in_order (array_at t.file.now c.loop-q.q) _ _ (as_returned {z = c.first.result} c.first.type_inv ∙ c.first.ensures) (as_returned {z = c.step.result} c.step.type_inv ∙ c.step.ensures) its i (omega (arith, h, c.count_of.ensures));
      few_items = omega (arith, c.loop-q.invariant.0, c.loop-q-test.true, t.few);
      few_cells = omega (arith, c.loop-q.invariant.1, c.loop-q-test.true, t.few);
    }

pub loop-q-preserved : goal.loop-q-preserved
loop-q-preserved c =
    let t = c.args.arrays in
    let v = c.loop-q in
    let its = array_fits (goal.at.loop-q-preserved c).In-loop-q in
    let a = array_at t.file.now v.q in
    let on_it = found t v.q c.loop-q-test.true c.args.side c.eq.ensures c.side.ensures in
    let next = record_next (words t.file.now) 3 t.count v.q c.loop-q-test.true in
    elim c.if-eq.branch [
      | then-eq w ↦ (
        omega (arith, w.items-is, w.count_of.ensures, its.counted, its.short, v.invariant.0),
        omega (arith, w.cells-is, w.length.ensures, its.short, v.invariant.1),
        (λ k. carried (side c.args.side) (w.items-is k) (cells (side c.args.side) (w.cells-is k) (drop (v.q + 1) (declared t))) c.args.from.now (w.to-is k))
            ∙ order_next (side c.args.side) c.args.from.now a (drop v.q (declared t)) (drop (v.q + 1) (declared t)) next (on_it ∙ w.if-eq.true)
            (record { first = back w.first.result; step = back w.step.result; count = w.count_of.result; items = v.items; cells = v.cells })
            (as_returned {z = w.first.result} w.first.type_inv ∙ w.first.ensures) (as_returned {z = w.step.result} w.step.type_inv ∙ w.step.ensures)
            w.count_of.ensures w.length.result w.length.ensures v.to w.carry.new.to w.carry.ensures
            ∙ v.invariant.2,
      )
      | else-eq w ↦ (
        omega (arith, w.items-is, v.invariant.0),
        omega (arith, w.cells-is, v.invariant.1),
        (λ k. carried (side c.args.side) (w.items-is k) (cells (side c.args.side) (w.cells-is k) (drop (v.q + 1) (declared t))) c.args.from.now (w.to-is k))
            ∙ order_other (side c.args.side) c.args.from.now a (drop v.q (declared t)) (drop (v.q + 1) (declared t)) next (on_it ∙ w.if-eq.false) v.items v.cells v.to
            ∙ v.invariant.2,
      )
    ]

pub returns : goal.returns
returns c =
    let v = c.loop-q in
    let t = c.args.arrays in
    arrays_over (side c.args.side) c.args.from.now v.items v.cells (drop v.q (declared t)) v.to (Arrays.arrays_over t.file.now t.count v.q (omega arith)) ∙ v.invariant.2
