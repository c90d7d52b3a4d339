-- `run_calls::right_lengths` meets its contract: one length, then the other.
use Rattle.run_calls.specs.View.{kernel_of}
use Rattle.run_calls.proofs.Calls.{declared_is, both_hold, first_fails, second_fails}
use Rattle.run_calls.proofs.right_lengths.Goals.{else-right_length-via-then-right_length+else-right_length-2, else-right_length-via-else-right_length}
use Rattle.run_calls.proofs.right_lengths.Goals as goal

pub returns-then-right_length-2 : goal.returns-then-right_length-2
returns-then-right_length-2 c =
    let a = c.args in
    let t = c.arrays-arrays.result in
    both_hold (kernel_of a.k).arrays t (declared_is t a.k c.arrays-arrays.ensures) a.first a.second
    c.right_length.ensures c.if-right_length.true c.right_length-then-right_length.ensures c.if-right_length-2.true

pub returns-else-right_length : goal.returns-else-right_length
returns-else-right_length c =
    let a = c.args in
    let t = c.arrays-arrays.result in
    let d = declared_is t a.k c.arrays-arrays.ensures in
    elim c.else-right_length.branch [
      | else-right_length-via-then-right_length+else-right_length-2 w ↦ second_fails (kernel_of a.k).arrays t d a.first a.second c.right_length.ensures w.if-right_length.true w.right_length-then-right_length.ensures w.if-right_length-2.false
      | else-right_length-via-else-right_length w ↦ first_fails (kernel_of a.k).arrays t d a.first a.second c.right_length.ensures w.if-right_length.false
    ]
