-- `KindTable::kind` meets its contract.
use mathlib.Core.Path.{ap, ◌∙◌}
use native.Mathlib.Omega.{arith}
use Rattle.read_records.specs.View.{kind_at}
use Rattle.read_records.proofs.Tables.{entry, in_table}
use Rattle.read_records.proofs.KindTable.kind.Goals as goal

pub overflow_sub-result : goal.overflow_sub-result
overflow_sub-result c = omega (arith, c.from.ensures, (in_table c.args.code).0)

pub bounds-self-from : goal.bounds-self-from
bounds-self-from c = omega (arith, c.from.ensures, (in_table c.args.code).0, (in_table c.args.code).1)

pub returns : goal.returns
returns c =
    entry c.args.self.now.rows c.args.self.now.table c.from.result c.args.field
    ∙ ap (λ n. kind_at n c.args.field) c.from.ensures
