-- `ArrayTable::number` meets its contract: the record of array j begins at number 3 + 8 × j.
use Prim.Native.Nat.{◌+◌, ◌*◌}
use mathlib.Core.Path.{sym, ◌∙◌}
use native.Mathlib.Omega.{arith}
use Rattle.numbers.specs.Words.{words}
use Rattle.numbers.specs.Areas.{word}
use Rattle.numbers.proofs.Areas.{words_length}
use Rattle.parts.proofs.Records.{number_there}
use Rattle.parts.proofs.ArrayTable.number.Goals as goal

pub returns : goal.returns
unfolding word
returns c =
    let file = c.args.self.file.now in
    c.whole_word.ensures ∙ sym (number_there (words file) (3 + 8 * c.args.j) (omega (arith, words_length file, c.requires.0, c.args.self.there)) c.args.field c.requires.1)
