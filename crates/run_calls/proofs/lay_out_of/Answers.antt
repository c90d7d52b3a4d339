-- `run_calls::lay_out_of` meets its contract: a wrong length, or laying out.
use Prim.Native.Nat.{◌*◌}
use mathlib.Core.Path.{sym, ap, ◌∙◌}
use Rattle.numbers.specs.Words.{words, bytes}
use Rattle.kernel.specs.Named.{side}
use Rattle.kernel.specs.File.{input}
use Rattle.kernel.specs.Memory as Memory
use Rattle.parts.specs.declared.Measure.TheVariants.{Items}
use Rattle.memory.specs.Sizes.{total}
use Rattle.memory.specs.Items.{laid_out}
use Rattle.run_calls.specs.View.{kernel_of}
use Rattle.run_calls.proofs.Calls.{declared_is, wrong, right, long, lay_out_call, refused_move, done_move}
use Rattle.run_calls.proofs.lay_out_of.Goals as goal

pub returns-in_err-right_lengths : goal.returns-in_err-right_lengths
unfolding side
returns-in_err-right_lengths c =
    let a = c.args in
    let K = kernel_of a.k in
    refused_move _ _ _ _ c.from_residual.ensures.1
    (lay_out_call a.k.file.now K a.k.reads a.arrays.now a.streams.now
    ∙ wrong Memory.laid_out K a.arrays.now a.streams.now c.of-first.ensures c.of-second.ensures c.right_lengths.ensures c.in_err-right_lengths.field-0.0 c.in_err-right_lengths.was)

pub lay_out-requires : goal.lay_out-requires
unfolding side
lay_out-requires c =
    let a = c.args in
    let K = kernel_of a.k in
    let d = sym (declared_is c.arrays.result a.k c.arrays.ensures) in
    let l = long Memory.laid_out K a.arrays.now a.streams.now c.of-first.ensures c.of-second.ensures c.right_lengths.ensures c.in_ok-right_lengths.was in
    l.1 ∙ ap (λ rs. 4 * total input Items rs) d

pub returns : goal.returns
unfolding side Memory.laid_out
returns c =
    let a = c.args in
    let K = kernel_of a.k in
    done_move _ _ _ _
    (lay_out_call a.k.file.now K a.k.reads a.arrays.now a.streams.now
    ∙ right Memory.laid_out K a.arrays.now a.streams.now c.of-first.ensures c.of-second.ensures c.right_lengths.ensures c.in_ok-right_lengths.was)
    (c.lay_out.ensures ∙ ap (λ rs. bytes (laid_out rs (words a.arrays.now))) (declared_is c.arrays.result a.k c.arrays.ensures))
