-- `run_ops::store` meets its contract: the register is set or not, then the form names a cell or not.
use mathlib.Core.Path.{◌≡◌, ap, ◌∙◌}
use Prim.Native.Nat.{◌^◌, ◌<◌}
use native.Mathlib.Omega.{arith}
use Rattle.numbers.specs.Words.{words}
use Rattle.numbers.proofs.Signs.{back, as_returned}
use Rattle.forms.specs.Form.{value}
use Rattle.forms.specs.Code.{form}
use Rattle.kernel.specs.File.{store}
use Rattle.kernel.specs.Machine.{perform, keep}
use Rattle.kernel.specs.Named.{reason}
use Rattle.run_loops.specs.View.{counters}
use Rattle.run_ops.specs.States.{state}
use Rattle.run_ops.specs.Layout.{layout, cell_at}
use Rattle.run_ops.proofs.States.{stops, given, refused, ends, sticks}
use Rattle.run_ops.proofs.Cells.{whole_after, store_sticks, stores}
use Rattle.run_ops.proofs.store.Goals.{After-value}
use Rattle.run_ops.proofs.store.Goals as goal

pub value-requires : goal.value-requires
value-requires c = (c.requires.2, c.requires.3.each)

-- the form's value, as the code has it
is : (c : After-value) → back c.value.result ≡ value (form c.args.f) c.args.a.now.values
is c = as_returned {z = c.value.result} c.value.type_inv ∙ c.value.ensures

pub returns-in_err-v : goal.returns-in_err-v
unfolding perform
returns-in_err-v c =
    let g = c.args in
    let ws = words g.output.now in (
      λ m n. sticks (record (layout g.arrays.now) { input = m }) n (store g.p g.q (form g.f)) (counters g.a.now) (state g.machine.now ws) c.from_residual.result _ c.from_residual.ensures.1
          (stops _ (refused _ (c.in_err-v.ensures ws))),
      c.requires.4,
    )

pub returns-in_err-to : goal.returns-in_err-to
unfolding reason perform keep
returns-in_err-to c =
    let g = c.args in
    let e = layout g.arrays.now in
    let cs = counters g.a.now in
    let f = form g.f in
    let ws = words g.output.now in
    let at = refused _ (c.in_err-to.ensures.0 ∙ ap (cell_at e g.q 33) (is (goal.at.returns-in_err-to c).After-value)) in (
      λ m n. sticks (record e { input = m }) n (store g.p g.q f) cs (state g.machine.now ws) c.from_residual-in_err-to.result _ c.from_residual-in_err-to.ensures.1
          (store_sticks g.arrays.now cs.values g.machine.now g.p g.q g.output.now c.in_ok-v.v (given _ (c.in_ok-v.ensures ws)) f _ at),
      c.requires.4,
    )

pub returns : goal.returns
unfolding reason perform keep
returns c =
    let g = c.args in
    let e = layout g.arrays.now in
    let cs = counters g.a.now in
    let f = form g.f in
    let w = c.in_ok-v.v in
    let ws = words g.output.now in
    let at = given _ (c.in_ok-to.ensures.0 ∙ ap (cell_at e g.q 33) (is (goal.at.returns c).After-value)) in
    let small : w < 2 ^ 32 = omega arith in (
      λ m n. ends (record e { input = m }) n (store g.p g.q f) cs (state g.machine.now ws)
          (stores g.arrays.now cs.values g.machine.now g.p g.q g.output.now w (given _ (c.in_ok-v.ensures ws)) f at small c.put_word.ensures),
      whole_after g.output.now c.in_ok-to.to w small c.put_word.ensures c.requires.4,
    )
