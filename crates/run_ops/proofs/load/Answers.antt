-- `run_ops::load` meets its contract: the form names a cell or not.
use mathlib.Core.Path.{◌≡◌, ap, ◌∙◌}
use Rattle.numbers.proofs.Signs.{back, as_returned}
use Rattle.forms.specs.Form.{value}
use Rattle.forms.specs.Code.{form}
use Rattle.kernel.specs.File.{load}
use Rattle.kernel.specs.Named.{reason}
use Rattle.run_loops.specs.View.{counters}
use Rattle.run_ops.specs.States.{state}
use Rattle.run_ops.specs.Layout.{layout, cell_at}
use Rattle.run_ops.proofs.States.{given, refused, ends, sticks}
use Rattle.run_ops.proofs.Cells.{load_sticks, loads}
use Rattle.run_ops.proofs.load.Goals.{After-value}
use Rattle.run_ops.proofs.load.Goals as goal

pub value-requires : goal.value-requires
value-requires c = (c.requires.2, c.requires.3.each)

-- the form's value, as the code has it
is : (c : After-value) → back c.value.result ≡ value (form c.args.f) c.args.a.now.values
is c = as_returned {z = c.value.result} c.value.type_inv ∙ c.value.ensures

pub returns-in_err-from : goal.returns-in_err-from
unfolding reason
returns-in_err-from c =
    let g = c.args in
    let e = layout g.arrays.now in
    let cs = counters g.a.now in
    let f = form g.f in
    let at = refused _ (c.in_err-from.ensures.0 ∙ ap (cell_at e g.q 33) (is (goal.at.returns-in_err-from c).After-value)) in
    λ ws n. sticks e n (load g.p g.q f) cs (state g.machine.now ws) c.from_residual.result _ c.from_residual.ensures.1
    (load_sticks g.arrays.now cs.values g.machine.now g.p g.q ws f _ at)

pub returns : goal.returns
unfolding reason
returns c =
    let g = c.args in
    let e = layout g.arrays.now in
    let cs = counters g.a.now in
    let f = form g.f in
    let at = given _ (c.in_ok-from.ensures.0 ∙ ap (cell_at e g.q 33) (is (goal.at.returns c).After-value)) in
    λ ws n. ends e n (load g.p g.q f) cs (state g.machine.now ws) (loads g.arrays.now cs.values g.machine.now g.p g.q ws f at c.word.ensures)
