-- `run_calls::put_back` meets its contract: reading first.
use mathlib.Core.Path.{sym}
use Rattle.read_file.specs.View as Found
use Rattle.run_calls.specs.View.{refusal}
use Rattle.run_calls.proofs.Calls.{refused_move, put_back_stops}
use Rattle.run_calls.proofs.put_back.Goals as goal

pub returns-in_err-read : goal.returns-in_err-read
unfolding Found.answer refusal
returns-in_err-read c =
    let a = c.args in
    refused_move _ _ _ _ c.from_residual.ensures.1 (put_back_stops a.file.now _ (sym c.in_err-read.ensures.0) a.streams.now a.arrays.now)
