-- `numbers::put_word` meets its contract.
use Rattle.std.proofs.Common.{sym}
use Rattle.numbers.proofs.Areas.{put_there, put_past}
use Rattle.numbers.proofs.put_word.Goals as goal

pub returns-then-i-area : goal.returns-then-i-area
returns-then-i-area c = rw c.to_le_bytes-bytes.ensures (sym (put_there c.args.area.now c.args.i c.args.w c.if-i-area.true))

pub returns-else-i-area : goal.returns-else-i-area
returns-else-i-area c = sym (put_past c.args.area.now c.args.i c.args.w c.if-i-area.false)
