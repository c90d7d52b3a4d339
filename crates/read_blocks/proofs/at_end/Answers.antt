-- `read_blocks::at_end` meets its contract.
use mathlib.Core.Path.{refl, sym}
use native.Mathlib.Omega.{arith}
use native.Mathlib.Nat as NatL
use Rattle.kernel.specs.Named.{misread}
use Rattle.read_blocks.specs.View.{opens, nested}
use Rattle.read_blocks.proofs.Opens.{end_none, end_refused, end_of_if, if_loops, if_passes, end_of_for, for_loops, for_there, passes_left, passes_some}
use Rattle.read_blocks.proofs.at_end.Goals as goal

pub returns-then-n-eq0 : goal.returns-then-n-eq0
unfolding nested misread
returns-then-n-eq0 c = (sym (end_none c.args.n.now c.if-n-eq0.true), λ e. refl)

pub overflow_sub-n : goal.overflow_sub-n
overflow_sub-n c = omega (arith, for_loops c.args.n.now (NatL.pos_of_ne-zero c.if-n-eq0.false) c.in-For.is)

pub nonzero_div-n : goal.nonzero_div-n
nonzero_div-n c = for_there c.args.n.now (NatL.pos_of_ne-zero c.if-n-eq0.false) c.in-For.is

pub invariant_of-n : goal.invariant_of-n
invariant_of-n c =
    let n = c.args.n.now in
    let h = NatL.pos_of_ne-zero c.if-n-eq0.false in record {
      shallow = omega (arith, n.shallow);
      loops_are = omega (arith, for_loops n h c.in-For.is);
      few_loops = omega (arith, n.few_loops);
      product_is = passes_left n h c.in-For.is;
      some_passes = passes_some n h c.in-For.is;
      few_passes = NatL.le_trans (NatL.div-le_self n.product c.in-For.passes) n.few_passes;
    }

pub invariant_of-n-in-Else : goal.invariant_of-n-in-Else
invariant_of-n-in-Else c =
    let n = c.args.n.now in
    let h = NatL.pos_of_ne-zero c.if-n-eq0.false in record {
      shallow = omega (arith, n.shallow);
      loops_are = if_loops n h c.in-Else.is;
      few_loops = n.few_loops;
      product_is = if_passes n h c.in-Else.is;
      some_passes = n.some_passes;
      few_passes = n.few_passes;
    }

pub returns-in-For : goal.returns-in-For
unfolding nested opens
returns-in-For c = (end_of_for c.args.n.now (NatL.pos_of_ne-zero c.if-n-eq0.false) c.in-For.is, λ e. cc)

pub returns-in-If : goal.returns-in-If
unfolding nested misread
returns-in-If c = (sym (end_refused c.args.n.now (NatL.pos_of_ne-zero c.if-n-eq0.false) c.in-If.is), λ e. refl)

pub returns-in-Else : goal.returns-in-Else
unfolding nested opens
returns-in-Else c = (end_of_if c.args.n.now (NatL.pos_of_ne-zero c.if-n-eq0.false) c.in-Else.is, λ e. cc)
