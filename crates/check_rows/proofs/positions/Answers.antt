-- `check_rows::positions` meets its contract. Invariant: the first i are what the first i rows state, and all forms are small.
use native.Mathlib.Omega.{arith}
use lib.ListN.{length-set}
use Rattle.kernel.specs.File as File
use Rattle.check_rows.proofs.Stating.{row_written, row_small, form_small, position_put}
use Rattle.check_rows.proofs.positions.Goals as goal

pub loop-i-preserved : goal.loop-i-preserved
loop-i-preserved c =
    let s = c.args in
    let i = c.loop-i.i in
    let v = c.loop-i.invariant in
    let e = c.record.ensures in
    let f = c.form in (
      row_written s.records s.from i e File.form f.result c.requires.0 c.loop-i-test.true (omega arith) f.ensures v.0,
      v.1,
      record { whole = (simp length-set v.2.whole.0, v.2.whole.1); at_position = position_put c.loop-i.l.positions i f.result (form_small f.ensures (row_small s.records s.from i e c.requires.2)) v.2.at_position; at_buffer = v.2.at_buffer },
    )
