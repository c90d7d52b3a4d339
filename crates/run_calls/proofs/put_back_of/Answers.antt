-- `run_calls::put_back_of` meets its contract: a wrong length, or putting back.
use Prim.Native.Nat.{◌*◌}
use mathlib.Core.Path.{sym, ap, ◌∙◌}
use Rattle.numbers.specs.Words.{words, bytes}
use Rattle.kernel.specs.Named.{side}
use Rattle.kernel.specs.File.{output}
use Rattle.kernel.specs.Memory as Memory
use Rattle.parts.specs.declared.Measure.TheVariants.{Cells, Items}
use Rattle.parts.specs.Arrays.{measure}
use Rattle.memory.specs.Sizes.{total}
use Rattle.memory.specs.Items.{put_back}
use Rattle.run_calls.specs.View.{kernel_of}
use Rattle.run_calls.proofs.Calls.{declared_is, wrong, right, long, put_back_call, refused_move, done_move}
use Rattle.run_calls.proofs.put_back_of.Goals as goal

pub returns-in_err-right_lengths : goal.returns-in_err-right_lengths
unfolding side
returns-in_err-right_lengths c =
    let a = c.args in
    let K = kernel_of a.k in
    refused_move _ _ _ _ c.from_residual.ensures.1
    (put_back_call a.k.file.now K a.k.reads a.streams.now a.arrays.now
    ∙ wrong Memory.put_back K a.streams.now a.arrays.now c.of-first.ensures c.of-second.ensures c.right_lengths.ensures c.in_err-right_lengths.field-0.0 c.in_err-right_lengths.was)

pub put_back-requires : goal.put_back-requires
unfolding side
put_back-requires c =
    let a = c.args in
    let K = kernel_of a.k in
    let d = sym (declared_is c.arrays.result a.k c.arrays.ensures) in
    let l = long Memory.put_back K a.streams.now a.arrays.now c.of-first.ensures c.of-second.ensures c.right_lengths.ensures c.in_ok-right_lengths.was in
    record { items = l.0 ∙ ap (λ rs. 4 * total output Items rs) d; cells = l.1 ∙ ap (λ rs. 4 * total output Cells rs) d }

pub returns : goal.returns
unfolding side measure Memory.put_back Memory.total
returns c =
    let a = c.args in
    let K = kernel_of a.k in
    done_move _ _ _ _
    (put_back_call a.k.file.now K a.k.reads a.streams.now a.arrays.now
    ∙ right Memory.put_back K a.streams.now a.arrays.now c.of-first.ensures c.of-second.ensures c.right_lengths.ensures c.in_ok-right_lengths.was)
    (c.put_back.ensures ∙ ap (λ rs. bytes (put_back rs (words a.streams.now))) (declared_is c.arrays.result a.k c.arrays.ensures))
