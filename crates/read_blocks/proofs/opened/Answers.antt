-- `read_blocks::opened` meets its contract.
use Prim.Native.Nat.{◌≤◌}
use mathlib.Core.Path.{refl, sym}
use native.Mathlib.Omega.{arith}
use native.Mathlib.Nat as NatL
use lib.Dec.{lit<}
use Rattle.std.proofs.Common.{rules}
use Rattle.kernel.specs.Named.{misread}
use Rattle.read_blocks.specs.View.{opens, nested}
use Rattle.read_blocks.proofs.Opens.{one_loop, too_deep, too_many, too_long, grown_loops, grown_passes, one_more}
use Rattle.read_blocks.proofs.opened.Goals.{then-depth-ge8-via-then-depth-ge8, then-depth-ge8-via-else-depth-ge8+then-loops-gt4, then-depth-ge8-via-else-depth-ge8+else-loops-gt4+then-product-gt65536}
use Rattle.read_blocks.proofs.opened.Goals as goal

pub overflow_add-loops : goal.overflow_add-loops
overflow_add-loops c = record { fits = omega (arith, c.args.n.now.few_loops, c.loops.ensures, one_loop c.args.b) }

pub overflow_mul-product : goal.overflow_mul-product
overflow_mul-product c =
    let few : c.passes.result ≤ 131072 = omega (arith, c.passes.ensures, c.requires.1) in
    record { fits = NatL.lt_of_le_of_lt (NatL.mul-le-mul c.args.n.now.few_passes few) (lit< tt) }

pub returns-then-depth-ge8 : goal.returns-then-depth-ge8
unfolding nested misread
returns-then-depth-ge8 c =
    let n = c.args.n.now in (
      sym (elim c.then-depth-ge8.branch [
        | then-depth-ge8-via-then-depth-ge8 w ↦ too_deep n c.args.b c.loops.result c.passes.result c.loops.ensures c.passes.ensures w.if-depth-ge8.true
        | then-depth-ge8-via-else-depth-ge8+then-loops-gt4 w ↦ too_many n c.args.b c.loops.result c.passes.result c.loops.ensures c.passes.ensures w.if-depth-ge8.false w.if-loops-gt4.true
        | then-depth-ge8-via-else-depth-ge8+else-loops-gt4+then-product-gt65536 w ↦ too_long n c.args.b c.loops.result c.passes.result c.loops.ensures c.passes.ensures w.if-depth-ge8.false w.if-loops-gt4.false w.if-product-gt65536.true
      ]),
      λ e. refl,
    )

pub invariant_of-n : goal.invariant_of-n
invariant_of-n c =
    let n = c.args.n.now in record {
      shallow = omega arith;
      loops_are = grown_loops n c.args.b c.loops.result c.passes.result c.loops.ensures c.passes.ensures c.if-depth-ge8.false (search rules);
      few_loops = c.if-loops-gt4.false;
      product_is = grown_passes n c.args.b c.loops.result c.passes.result c.loops.ensures c.passes.ensures c.if-depth-ge8.false (search rules);
      some_passes = NatL.mul-le-mul {n₁ = 1} {m₁ = 1} n.some_passes (rw c.passes.ensures c.requires.0);
      few_passes = c.if-product-gt65536.false;
    }

pub returns : goal.returns
unfolding nested opens
returns c =
    let n = c.args.n.now in
    (one_more n c.args.b c.loops.result c.passes.result c.loops.ensures c.passes.ensures c.if-depth-ge8.false (search rules) c.if-loops-gt4.false c.if-product-gt65536.false, λ e. cc)
