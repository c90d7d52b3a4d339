-- `check_ledger::kept` meets its contract.
use borrow.Author.Rules.{rules}
use Rattle.check_ledger.proofs.Tests.{kept_by}
use Rattle.check_ledger.proofs.kept.Goals as goal

pub returns : goal.returns
returns c = kept_by _ c.args.first c.args.second _ c.filter.ensures (λ h b q. search rules)
