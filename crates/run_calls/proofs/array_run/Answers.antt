-- `run_calls::array_run` meets its contract: reading first.
use mathlib.Core.Path.{sym}
use Rattle.read_file.specs.View as Found
use Rattle.run_calls.specs.View.{refusal}
use Rattle.run_calls.proofs.Calls.{refused_run, array_stops}
use Rattle.run_calls.proofs.array_run.Goals as goal

pub returns-in_err-read : goal.returns-in_err-read
unfolding Found.answer refusal
returns-in_err-read c =
    let a = c.args in
    refused_run _ _ _ _ c.from_residual.ensures.1 (array_stops a.file.now _ (sym c.in_err-read.ensures.0) a.input.now a.output.now)
