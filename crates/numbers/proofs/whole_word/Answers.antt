-- `numbers::whole_word` meets its contract: the four bytes are those of the word.
use Rattle.std.proofs.Common.{◌∙◌}
use Rattle.numbers.proofs.Areas.{word_at}
use Rattle.numbers.proofs.whole_word.Goals as goal

pub returns : goal.returns
returns c = c.from_le_bytes.ensures ∙ word_at c.args.area.now c.args.i c.requires
