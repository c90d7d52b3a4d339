-- `run_calls::run` meets its contract: a wrong length, or the run.
use Rattle.kernel.specs.Named.{side}
use Rattle.run_calls.specs.View.{kernel_of, program, program_ran}
use Rattle.run_calls.proofs.Calls.{wrong, right, long, refused_run, ran_run}
use Rattle.run_calls.proofs.run.Goals as goal

pub returns-in_err-right_lengths : goal.returns-in_err-right_lengths
unfolding side
returns-in_err-right_lengths c =
    let a = c.args in
    let K = kernel_of a.k in
    refused_run _ _ _ _ c.from_residual.ensures.1
    (wrong (program_ran a.m (program a.m K)) K a.input.now a.output.now c.of-first.ensures c.of-second.ensures c.right_lengths.ensures c.in_err-right_lengths.field-0.0 c.in_err-right_lengths.was)

pub started-requires : goal.started-requires
unfolding side
started-requires c =
    let a = c.args in
    let K = kernel_of a.k in
    (long (program_ran a.m (program a.m K)) K a.input.now a.output.now c.of-first.ensures c.of-second.ensures c.right_lengths.ensures c.in_ok-right_lengths.was).1

pub returns : goal.returns
unfolding side
returns c =
    let a = c.args in
    let K = kernel_of a.k in
    ran_run _ _ _ _ _
    (right (program_ran a.m (program a.m K)) K a.input.now a.output.now c.of-first.ensures c.of-second.ensures c.right_lengths.ensures c.in_ok-right_lengths.was)
    c.started.ensures.0 c.started.ensures.1
