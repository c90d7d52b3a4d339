use Rattle.forms.specs.Code.{loops}
use Rattle.check_ledger.proofs.Tests.{Keeping}
use Rattle.check_ledger.proofs.Ledger.keep_buffers.Given as goal

abbrev pub invariant-loop-i : goal.invariant-loop-i
invariant-loop-i l = Keeping (loops l.around) l.first l.initial.self l.b l.i l.self
