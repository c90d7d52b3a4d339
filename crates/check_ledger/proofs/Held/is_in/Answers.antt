-- `check_ledger::Held::is_in` meets its contract.
use borrow.Author.Tests.{eq-eqb, ne_eqb}
use Rattle.kernel.specs.Ledger as L
use Rattle.check_ledger.specs.View.{held}
use Rattle.check_ledger.proofs.Held.is_in.Goals as goal

pub returns-then-self-h : goal.returns-then-self-h
unfolding L.holds_just held
returns-then-self-h c = rw (c.in-Some.is, eq-eqb _ _ c.if-self-h.true) c.same.ensures

pub returns-else-self-h : goal.returns-else-self-h
unfolding L.holds_just held
returns-else-self-h c = rw (c.in-Some.is, ne_eqb _ _ c.if-self-h.false)

pub returns-in-None : goal.returns-in-None
unfolding L.holds_just held
returns-in-None c = rw c.in-None.is
