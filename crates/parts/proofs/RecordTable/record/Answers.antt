-- `RecordTable::record` meets its contract: a record of the section, or none past its end.
use mathlib.Core.Path.{sym, ◌∙◌}
use native.Mathlib.Omega.{arith}
use lib.ListN.{drop}
use Rattle.numbers.specs.Words.{words}
use Rattle.parts.proofs.Records.{records_at, records_past}
use Rattle.parts.proofs.RecordTable.record.Goals as goal

pub overflow_mul-i : goal.overflow_mul-i
overflow_mul-i c = omega (arith, c.if-i-self.true, c.args.self.lies.few)

pub record_at-requires : goal.record_at-requires
record_at-requires c = omega (arith, c.if-i-self.true, c.args.self.lies.inside)

pub returns-then-i-self : goal.returns-then-i-self
returns-then-i-self c =
    let s = c.args.self in
    c.record_at.ensures ∙ sym (records_at (words s.file.now) s.part.at s.part.count c.args.i c.if-i-self.true)

pub returns : goal.returns
returns c =
    let s = c.args.self in
    sym (records_past (drop s.part.at (words s.file.now)) s.part.count c.args.i c.if-i-self.false)
