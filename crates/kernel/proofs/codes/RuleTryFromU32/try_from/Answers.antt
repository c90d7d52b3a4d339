-- What a number stands for: one for each arm.
use mathlib.Core.Path.{sym, ap}
use native.Mathlib.Omega.{arith}
use Rattle.kernel.specs.Named.{ruled}
use Rattle.kernel.proofs.Named.{ruled_else}
use Rattle.kernel.proofs.codes.RuleTryFromU32.try_from.Goals as goal

pub returns-in-1 : goal.returns-in-1
unfolding ruled
returns-in-1 c = sym (ap ruled c.in-1.is)

pub returns-in-2 : goal.returns-in-2
unfolding ruled
returns-in-2 c = sym (ap ruled c.in-2.is)

pub returns-in-3 : goal.returns-in-3
unfolding ruled
returns-in-3 c = sym (ap ruled c.in-3.is)

pub returns-in-4 : goal.returns-in-4
unfolding ruled
returns-in-4 c = sym (ap ruled c.in-4.is)

pub returns-in-5 : goal.returns-in-5
unfolding ruled
returns-in-5 c = sym (ap ruled c.in-5.is)

pub returns-in-6 : goal.returns-in-6
unfolding ruled
returns-in-6 c = sym (ap ruled c.in-6.is)

pub returns-in-7 : goal.returns-in-7
unfolding ruled
returns-in-7 c = sym (ap ruled c.in-7.is)

pub returns-in-8 : goal.returns-in-8
unfolding ruled
returns-in-8 c = sym (ap ruled c.in-8.is)

pub returns-in-9 : goal.returns-in-9
unfolding ruled
returns-in-9 c = sym (ap ruled c.in-9.is)

pub returns-in-10 : goal.returns-in-10
unfolding ruled
returns-in-10 c = sym (ap ruled c.in-10.is)

pub returns-in_default : goal.returns-in_default
returns-in_default c = sym (ruled_else c.args.w (λ a b. omega arith))
