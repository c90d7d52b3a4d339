-- `check_ledger::Ledger::keep_buffers` meets its contract.
use native.Mathlib.Omega.{arith}
use Rattle.check_ledger.proofs.Tests.{keep_starts, keep_more}
use Rattle.check_ledger.proofs.Ledger.keep_buffers.Goals as goal

pub loop-i-init : goal.loop-i-init
loop-i-init c = keep_starts

pub loop-i-preserved : goal.loop-i-preserved
loop-i-preserved c = keep_more c.loop-i.invariant c.kept.result (omega arith) (omega arith) c.loop-i-test.true (omega arith) c.kept.ensures
