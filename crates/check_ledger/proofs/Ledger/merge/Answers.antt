-- `check_ledger::Ledger::merge` meets its contract.
use Rattle.check_ledger.proofs.Tests.{merged_right, merged_bounded}
use Rattle.check_ledger.proofs.Ledger.merge.Goals as goal

pub returns : goal.returns
returns c =
    let t = c.take_positions.ensures in
    let k = c.keep_buffers.ensures in
    (merged_right t k, λ n f h. merged_bounded t k f h)
