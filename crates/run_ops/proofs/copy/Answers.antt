-- `run_ops::copy` meets its contract: the register that is copied is set or not.
use mathlib.Core.Path.{ap}
use Rattle.numbers.specs.Result.{ok}
use Rattle.kernel.specs.File.{copy}
use Rattle.kernel.specs.Machine.{perform}
use Rattle.run_ops.specs.States.{state}
use Rattle.run_ops.proofs.States.{goes_on, stops, given, refused, ends, sticks, put_there}
use Rattle.run_ops.proofs.copy.Goals as goal

pub returns-in_err-word : goal.returns-in_err-word
unfolding perform
returns-in_err-word c =
    let g = c.args in
    λ e d ws n. sticks e n (copy g.p g.q) d (state g.machine.now ws) c.from_residual.result _ c.from_residual.ensures.1 (stops _ (refused _ (c.in_err-word.ensures ws)))

pub returns : goal.returns
unfolding perform
returns c =
    let g = c.args in
    λ e d ws n. ends e n (copy g.p g.q) d (state g.machine.now ws) (goes_on _ (given _ (c.in_ok-word.ensures ws)) (ap ok (put_there g.machine.now ws g.p c.in_ok-word.field-0)))
