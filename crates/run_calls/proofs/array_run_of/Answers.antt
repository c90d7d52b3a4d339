-- `run_calls::array_run_of` meets its contract: the run of the kernel is that of its file.
use mathlib.Core.Path.{subst}
use Rattle.run_calls.specs.View.{kernel_of}
use Rattle.run_calls.specs.Promises.{Runs}
use Rattle.run_calls.proofs.Calls.{array_call}
use Rattle.run_calls.proofs.array_run_of.Goals as goal

pub returns : goal.returns
returns c =
    let a = c.args in
    subst (λ r. Runs r a.output.now c.run.result c.run.new.output) (array_call a.k.file.now (kernel_of a.k) a.k.reads a.input.now a.output.now) c.run.ensures
