-- `run_ops::write` meets its contract: the register is set or not, then the stream has room or not.
use mathlib.Core.Path.{◌≡◌, ap, ◌∙◌}
use Prim.Native.Nat.{◌^◌, ◌<◌}
use native.Mathlib.Omega.{arith}
use lib.IntN.{pos, nat_abs}
use lib.ListN.{get_or}
use Rattle.numbers.specs.Words.{words}
use Rattle.numbers.proofs.Signs.{back, as_returned}
use Rattle.kernel.specs.File.{write}
use Rattle.kernel.specs.Machine.{perform, keep, place, advance}
use Rattle.kernel.specs.Named.{reason}
use Rattle.run_ops.specs.States.{state}
use Rattle.run_ops.specs.Layout.{layout, cell_at}
use Rattle.run_ops.proofs.States.{stops, given, refused, ends, sticks}
use Rattle.run_ops.proofs.Cells.{whole_after, write_sticks, writes}
use Rattle.run_ops.proofs.write.Goals.{After-from}
use Rattle.run_ops.proofs.write.Goals as goal

-- the stream's place, as the code has it
is : (c : After-from) → back c.from.result ≡ pos (get_or c.args.machine.now.places c.args.q 0)
is c = as_returned {z = c.from.result} c.from.type_inv ∙ c.from.ensures

pub returns-in_err-w : goal.returns-in_err-w
unfolding perform
returns-in_err-w c =
    let g = c.args in
    let ws = words g.output.now in (
      λ d m n. sticks (record (layout g.arrays.now) { input = m }) n (write g.p g.q) d (state g.machine.now ws) c.from_residual.result _ c.from_residual.ensures.1
          (stops _ (refused _ (c.in_err-w.ensures ws))),
      c.requires.2,
    )

pub returns-in_err-to : goal.returns-in_err-to
unfolding reason perform keep place advance
returns-in_err-to c =
    let g = c.args in
    let e = layout g.arrays.now in
    let ws = words g.output.now in
    let at = refused _ (c.in_err-to.ensures.0 ∙ ap (cell_at e g.q 35) (is (goal.at.returns-in_err-to c).After-from)) in (
      λ d m n. sticks (record e { input = m }) n (write g.p g.q) d (state g.machine.now ws) c.from_residual-in_err-to.result _ c.from_residual-in_err-to.ensures.1
          (write_sticks g.arrays.now d.values g.machine.now g.p g.q g.output.now c.in_ok-w.w (given _ (c.in_ok-w.ensures ws)) _ at),
      c.requires.2,
    )

pub overflow_add-machine : goal.overflow_add-machine
overflow_add-machine c = omega (arith, c.in_ok-to.ensures.1, ap nat_abs (is (goal.at.overflow_add-machine c).After-from))

pub returns : goal.returns
unfolding reason perform keep place advance
returns c =
    let g = c.args in
    let e = layout g.arrays.now in
    let w = c.in_ok-w.w in
    let ws = words g.output.now in
    let at = given _ (c.in_ok-to.ensures.0 ∙ ap (cell_at e g.q 35) (is (goal.at.returns c).After-from)) in
    let small : w < 2 ^ 32 = omega arith in (
      λ d m n. ends (record e { input = m }) n (write g.p g.q) d (state g.machine.now ws)
          (writes g.arrays.now d.values g.machine.now g.p g.q g.output.now w (given _ (c.in_ok-w.ensures ws)) at small c.put_word.ensures),
      whole_after g.output.now c.in_ok-to.to w small c.put_word.ensures c.requires.2,
    )
