-- The code's statement, seen as that of the definitions.
use Rattle.std.specs.Prelude.{Result, Ok, Err}
use Rattle.forms.specs.Code.{form, loop}
use Rattle.kernel.specs.File as File
use Rattle.kernel.specs.declared.codes.NoCode.{NoCode}
use Rattle.parts.specs.declared.statements.Operator.{Operator}
use Rattle.parts.specs.declared.statements.Operator.TheVariants.{Add, Subtract, Multiply, Divide}
use Rattle.parts.specs.declared.statements.Op.{Op}
use Rattle.parts.specs.declared.statements.Op.TheVariants.{Set, Copy, Work, Load, Store, Read, Write}
use Rattle.parts.specs.declared.statements.Statement.{Statement}
use Rattle.parts.specs.declared.statements.Statement.TheVariants.{Does, For, If, Else, End}

unfoldable pub operator : Operator → File.Operator
operator Add = File.add
operator Subtract = File.subtract
operator Multiply = File.multiply
operator Divide = File.divide

unfoldable pub op : Op → File.Op
op (Set p f) = File.set p (form f)
op (Copy p q) = File.copy p q
op (Work o p q k) = File.work (operator o) p q k
op (Load p q f) = File.load p q (form f)
op (Store p q f) = File.store p q (form f)
op (Read p q) = File.read p q
op (Write p q) = File.write p q

unfoldable pub statement : Statement → File.Statement
statement (Does o) = File.does (op o)
statement (For l) = File.for (loop l)
statement (If p) = File.if p
statement Else = File.else
statement End = File.end

-- a record with no statement's code says nothing
unfoldable pub stated : Result Statement NoCode → File.Statement
stated (Ok s) = statement s
stated (Err e) = File.none
