-- Each number has its operator, and any other divides.
use mathlib.Core.Path.{sym, ap}
use native.Mathlib.Omega.{arith}
use Rattle.kernel.specs.File as File
use Rattle.parts.specs.Statements.{operator}
use Rattle.parts.proofs.Operators.{divides}
use Rattle.parts.proofs.statements.OperatorFromU32.from.Goals as goal

pub returns-in-1 : goal.returns-in-1
unfolding operator File.operator
returns-in-1 c = sym (ap File.operator c.in-1.is)

pub returns-in-2 : goal.returns-in-2
unfolding operator File.operator
returns-in-2 c = sym (ap File.operator c.in-2.is)

pub returns-in-3 : goal.returns-in-3
unfolding operator File.operator
returns-in-3 c = sym (ap File.operator c.in-3.is)

pub returns-in_default : goal.returns-in_default
unfolding operator
returns-in_default c = sym (divides c.args.w (λ a b. omega arith))
