-- `run_ops::work` meets its contract: both registers are set or not, then the operator gives a word or not.
use mathlib.Core.Path.{ap}
use Rattle.numbers.specs.Result.{ok}
use Rattle.kernel.specs.File.{work}
use Rattle.kernel.specs.Machine.{perform}
use Rattle.parts.specs.Statements.{operator}
use Rattle.run_ops.specs.States.{state}
use Rattle.run_ops.proofs.States.{goes_on, stops, given, refused, ends, sticks, put_there}
use Rattle.run_ops.proofs.work.Goals as goal

pub returns-in_err-word : goal.returns-in_err-word
unfolding perform
returns-in_err-word c =
    let g = c.args in
    λ e d ws n. sticks e n (work (operator g.o) g.p g.q g.k) d (state g.machine.now ws) c.from_residual.result _ c.from_residual.ensures.1 (stops _ (refused _ (c.in_err-word.ensures ws)))

pub returns-in_err-word-2 : goal.returns-in_err-word-2
unfolding perform
returns-in_err-word-2 c =
    let g = c.args in
    λ e d ws n. sticks e n (work (operator g.o) g.p g.q g.k) d (state g.machine.now ws) c.from_residual-in_err-word-2.result _ c.from_residual-in_err-word-2.ensures.1
    (goes_on _ (given _ (c.in_ok-word.ensures ws)) (stops _ (refused _ (c.in_err-word-2.ensures ws))))

pub returns-in_err-result : goal.returns-in_err-result
unfolding perform
returns-in_err-result c =
    let g = c.args in
    λ e d ws n. sticks e n (work (operator g.o) g.p g.q g.k) d (state g.machine.now ws) c.from_residual-in_err-result.result _ c.from_residual-in_err-result.ensures.1
    (goes_on _ (given _ (c.in_ok-word.ensures ws)) (goes_on _ (given _ (c.in_ok-word-2.ensures ws)) (stops _ (refused _ c.in_err-result.ensures))))

pub returns : goal.returns
unfolding perform
returns c =
    let g = c.args in
    λ e d ws n. ends e n (work (operator g.o) g.p g.q g.k) d (state g.machine.now ws)
    (goes_on _ (given _ (c.in_ok-word.ensures ws)) (goes_on _ (given _ (c.in_ok-word-2.ensures ws)) (goes_on _ (given _ c.in_ok-result.ensures) (ap ok (put_there g.machine.now ws g.p c.in_ok-result.field-0)))))
