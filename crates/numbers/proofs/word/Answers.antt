-- `numbers::word` meets its contract.
use Rattle.std.proofs.Common.{sym}
use Rattle.numbers.proofs.Areas.{word_past}
use Rattle.numbers.proofs.word.Goals as goal

pub returns-else-i-area : goal.returns-else-i-area
returns-else-i-area c = sym (word_past c.args.area.now c.args.i c.if-i-area.false)
