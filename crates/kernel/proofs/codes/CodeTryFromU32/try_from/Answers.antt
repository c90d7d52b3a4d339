-- What a number stands for: one for each arm.
use mathlib.Core.Path.{sym, ap}
use native.Mathlib.Omega.{arith}
use Rattle.kernel.specs.Named.{coded}
use Rattle.kernel.proofs.Named.{coded_else}
use Rattle.kernel.proofs.codes.CodeTryFromU32.try_from.Goals as goal

pub returns-in-1 : goal.returns-in-1
unfolding coded
returns-in-1 c = sym (ap coded c.in-1.is)

pub returns-in-2 : goal.returns-in-2
unfolding coded
returns-in-2 c = sym (ap coded c.in-2.is)

pub returns-in-3 : goal.returns-in-3
unfolding coded
returns-in-3 c = sym (ap coded c.in-3.is)

pub returns-in-4 : goal.returns-in-4
unfolding coded
returns-in-4 c = sym (ap coded c.in-4.is)

pub returns-in-5 : goal.returns-in-5
unfolding coded
returns-in-5 c = sym (ap coded c.in-5.is)

pub returns-in-6 : goal.returns-in-6
unfolding coded
returns-in-6 c = sym (ap coded c.in-6.is)

pub returns-in-7 : goal.returns-in-7
unfolding coded
returns-in-7 c = sym (ap coded c.in-7.is)

pub returns-in-8 : goal.returns-in-8
unfolding coded
returns-in-8 c = sym (ap coded c.in-8.is)

pub returns-in-9 : goal.returns-in-9
unfolding coded
returns-in-9 c = sym (ap coded c.in-9.is)

pub returns-in-10 : goal.returns-in-10
unfolding coded
returns-in-10 c = sym (ap coded c.in-10.is)

pub returns-in-11 : goal.returns-in-11
unfolding coded
returns-in-11 c = sym (ap coded c.in-11.is)

pub returns-in_default : goal.returns-in_default
returns-in_default c = sym (coded_else c.args.w (λ a b. omega arith))
