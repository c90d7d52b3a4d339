-- `memory::summed` meets its contract. The invariant: what is added so far and what the arrays from here on give are the whole.
use Prim.Native.Nat.{ℕ}
use mathlib.Core.Path.{◌∙◌}
use native.Mathlib.Omega.{arith}
use Rattle.kernel.specs.Named.{side}
use Rattle.parts.specs.Arrays.{array_at}
use Rattle.memory.proofs.Rows.{found, only_here, only_other, side_next, side_over}
use Rattle.memory.proofs.summed.Goals.{then-eq, else-eq}
use Rattle.memory.proofs.summed.Goals as goal

pub loop-j-preserved : goal.loop-j-preserved
loop-j-preserved g c =
    let t = c.args.arrays in
    let j = c.loop-j.j in
    let its = side c.args.side in
    let on_it = found t j (omega (arith, c.requires.few, c.loop-j-test.true)) c.args.side c.eq.ensures c.side.ensures in
    let next = λ (v : ℕ → ℕ). side_next its t.file.now c.args.n v j c.loop-j-test.true in
    elim c.if-eq.branch [
      | then-eq w ↦ (omega arith, λ v h. omega (arith, only_here its (λ _. v j) (array_at t.file.now j) (on_it ∙ w.if-eq.true), h j w.of.result c.loop-j-test.true w.of.ensures, next v, c.loop-j.invariant.1 v h))
      | else-eq w ↦ (omega arith, λ v h. omega (arith, only_other its (λ _. v j) (array_at t.file.now j) (on_it ∙ w.if-eq.false), next v, c.loop-j.invariant.1 v h))
    ]

pub returns : goal.returns
returns g c =
    λ v h. omega (arith, side_over (side c.args.side) c.args.arrays.file.now c.args.n v c.loop-j.j (omega arith), c.loop-j.invariant.1 v h)
