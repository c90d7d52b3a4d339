-- `check_rules::need` meets its contract.
use mathlib.Core.Path.{sym, ap}
use Rattle.numbers.specs.Result.{need}
use Rattle.kernel.specs.Named.{misfit}
use Rattle.check_rules.specs.View.{answered}
use Rattle.check_rules.proofs.need.Goals as goal

pub returns-then-holds : goal.returns-then-holds
unfolding answered need
returns-then-holds c = sym (ap (need (misfit c.args.m)) c.if-holds.true)

pub returns-else-holds : goal.returns-else-holds
unfolding answered need
returns-else-holds c = sym (ap (need (misfit c.args.m)) c.if-holds.false)
