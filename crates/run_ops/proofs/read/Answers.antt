-- `run_ops::read` meets its contract: the stream has an item left or not.
use mathlib.Core.Path.{◌≡◌, ap, ◌∙◌}
use native.Mathlib.Omega.{arith}
use lib.IntN.{pos, nat_abs}
use lib.ListN.{get_or}
use Rattle.numbers.proofs.Signs.{back, as_returned}
use Rattle.kernel.specs.File.{read}
use Rattle.kernel.specs.Named.{reason}
use Rattle.run_ops.specs.States.{state}
use Rattle.run_ops.specs.Layout.{layout, cell_at}
use Rattle.run_ops.proofs.States.{given, refused, ends, sticks}
use Rattle.run_ops.proofs.Cells.{read_sticks, reads}
use Rattle.run_ops.proofs.read.Goals.{After-from}
use Rattle.run_ops.proofs.read.Goals as goal

-- the stream's place, as the code has it
is : (c : After-from) → back c.from.result ≡ pos (get_or c.args.machine.now.places c.args.q 0)
is c = as_returned {z = c.from.result} c.from.type_inv ∙ c.from.ensures

pub returns-in_err-from : goal.returns-in_err-from
unfolding reason
returns-in_err-from c =
    let g = c.args in
    let e = layout g.arrays.now in
    let at = refused _ (c.in_err-from.ensures.0 ∙ ap (cell_at e g.q 34) (is (goal.at.returns-in_err-from c).After-from)) in
    λ d ws n. sticks e n (read g.p g.q) d (state g.machine.now ws) c.from_residual.result _ c.from_residual.ensures.1
    (read_sticks g.arrays.now d.values g.machine.now g.p g.q ws _ at)

pub overflow_add-machine : goal.overflow_add-machine
overflow_add-machine c = omega (arith, c.in_ok-from.ensures.1, ap nat_abs (is (goal.at.overflow_add-machine c).After-from))

pub returns : goal.returns
unfolding reason
returns c =
    let g = c.args in
    let e = layout g.arrays.now in
    let at = given _ (c.in_ok-from.ensures.0 ∙ ap (cell_at e g.q 34) (is (goal.at.returns c).After-from)) in
    λ d ws n. ends e n (read g.p g.q) d (state g.machine.now ws) (reads g.arrays.now d.values g.machine.now g.p g.q ws at c.word.ensures)
