-- What a number stands for: one for each arm.
use mathlib.Core.Path.{sym, ap}
use native.Mathlib.Omega.{arith}
use Rattle.kernel.specs.Named.{sided}
use Rattle.kernel.proofs.Named.{sided_else}
use Rattle.kernel.proofs.codes.SideTryFromU32.try_from.Goals as goal

pub returns-in-1 : goal.returns-in-1
unfolding sided
returns-in-1 c = sym (ap sided c.in-1.is)

pub returns-in-2 : goal.returns-in-2
unfolding sided
returns-in-2 c = sym (ap sided c.in-2.is)

pub returns-in_default : goal.returns-in_default
returns-in_default c = sym (sided_else c.args.w (λ a b. omega arith))
