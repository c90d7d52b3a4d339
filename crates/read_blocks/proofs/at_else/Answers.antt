-- `read_blocks::at_else` meets its contract.
use mathlib.Core.Path.{refl, sym}
use native.Mathlib.Nat as NatL
use Rattle.std.proofs.Common.{rules}
use Rattle.kernel.specs.Named.{misread}
use Rattle.read_blocks.specs.View.{opens, nested}
use Rattle.read_blocks.proofs.Opens.{else_none, else_refused, turned, turned_loops, turned_passes}
use Rattle.read_blocks.proofs.at_else.Goals as goal

pub returns-then-n-eq0 : goal.returns-then-n-eq0
unfolding nested misread
returns-then-n-eq0 c = (sym (else_none c.args.n.now c.if-n-eq0.true), λ e. refl)

pub returns-in_default : goal.returns-in_default
unfolding nested misread
returns-in_default c = (sym (else_refused c.args.n.now (NatL.pos_of_ne-zero c.if-n-eq0.false) c.in_default.not-If), λ e. refl)

pub invariant_of-n : goal.invariant_of-n
invariant_of-n c =
    let n = c.args.n.now in
    let h = NatL.pos_of_ne-zero c.if-n-eq0.false in record {
      shallow = n.shallow;
      loops_are = turned_loops n h (search rules) c.in-If.is;
      few_loops = n.few_loops;
      product_is = turned_passes n h (search rules) c.in-If.is;
      some_passes = n.some_passes;
      few_passes = n.few_passes;
    }

pub returns : goal.returns
unfolding nested opens
returns c =
    (turned c.args.n.now (NatL.pos_of_ne-zero c.if-n-eq0.false) (search rules) c.in-If.is, λ e. cc)
