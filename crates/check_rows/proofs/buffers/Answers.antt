-- `check_rows::buffers` meets its contract. Invariant: the first i are what the first i rows state, and all forms are small.
use native.Mathlib.Omega.{arith}
use lib.ListN.{length-set}
use Rattle.kernel.specs.Derivation.{row_held}
use Rattle.check_rows.proofs.Stating.{row_written, row_small, held_small, buffer_put}
use Rattle.check_rows.proofs.buffers.Goals as goal

pub loop-i-preserved : goal.loop-i-preserved
loop-i-preserved c =
    let s = c.args in
    let i = c.loop-i.i in
    let v = c.loop-i.invariant in
    let e = c.record.ensures in
    let h = c.row_held in (
      row_written s.records s.from i e row_held h.result c.requires.0 c.loop-i-test.true (omega arith) h.ensures v.0,
      v.1,
      record { whole = (v.2.whole.0, simp length-set v.2.whole.1); at_position = v.2.at_position; at_buffer = buffer_put c.loop-i.l.buffers i h.result (held_small h.result _ h.ensures (row_small s.records s.from i e c.requires.2)) v.2.at_buffer },
    )
