-- `check_ledger::Ledger::passed` meets its contract.
use Prim.Native.Nat.{◌<◌}
use native.Mathlib.Omega.{arith}
use lib.ListN.{length}
use Rattle.check_ledger.proofs.Bounds.{passed_bounded}
use Rattle.check_ledger.proofs.Steps.{passed_right}
use Rattle.check_ledger.proofs.Ledger.passed.Goals as goal

pub returns : goal.returns
returns c =
    let s = c.args in
    let k : s.q < length s.self.positions = omega (arith, c.requires.0, c.requires.1.1.whole) in
    (λ a d h. passed_right a d s.self s.q c.plus_one.ensures h k, λ n h. passed_bounded s.q s.self.buffers h c.plus_one.ensures)
