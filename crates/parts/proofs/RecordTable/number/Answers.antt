-- `RecordTable::number` meets its contract: record i of the section begins eight numbers after the one before.
use Prim.Native.Nat.{◌+◌, ◌*◌}
use mathlib.Core.Path.{sym, ap, ◌∙◌}
use native.Mathlib.Omega.{arith}
use lib.ListN.{get_or}
use Rattle.numbers.specs.Words.{words}
use Rattle.numbers.specs.Areas.{word}
use Rattle.numbers.proofs.Areas.{words_length}
use Rattle.kernel.specs.File.{numbers}
use Rattle.parts.proofs.Records.{records_at, number_there}
use Rattle.parts.proofs.RecordTable.number.Goals as goal

pub overflow_mul-i : goal.overflow_mul-i
overflow_mul-i c = omega (arith, c.requires.0, c.args.self.lies.few)

pub returns : goal.returns
unfolding word
returns c =
    let s = c.args.self in
    let ws = words s.file.now in
    let there = number_there ws (s.part.at + 8 * c.args.i) (omega (arith, words_length s.file.now, c.requires.0, s.lies.inside)) c.args.n c.requires.1 in
    c.whole_word.ensures ∙ sym (ap (λ r. get_or (numbers r) c.args.n 0) (records_at ws s.part.at s.part.count c.args.i c.requires.0) ∙ there)
