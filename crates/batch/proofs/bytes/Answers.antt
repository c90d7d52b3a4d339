-- `batch::bytes` meets its contract.
use Rattle.batch.specs.Reply.{eight}
use Rattle.batch.proofs.bytes.Goals as goal

pub returns : goal.returns
unfolding eight
returns c =
    c.to_le_bytes.ensures
