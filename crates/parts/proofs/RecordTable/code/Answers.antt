-- `RecordTable::code` meets its contract: a record's code is the first of its numbers.
use mathlib.Core.Path.{◌∙◌}
use Rattle.parts.proofs.Records.{code_there}
use Rattle.parts.proofs.RecordTable.code.Goals as goal

pub returns : goal.returns
returns c =
    c.whole_word.ensures ∙ code_there c.args.self.file.now c.args.self.part c.args.self.lies c.args.i c.requires
