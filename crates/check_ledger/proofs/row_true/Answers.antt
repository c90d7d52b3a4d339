-- `check_ledger::row_true` meets its contract.
use borrow.Author.Rules.{rules}
use Rattle.check_ledger.proofs.Tests.{row_true_by}
use Rattle.check_ledger.proofs.row_true.Goals as goal

pub returns : goal.returns
returns c = row_true_by _ c.args.row c.args.buffer _ c.is_none_or.ensures (λ h q. search rules)
