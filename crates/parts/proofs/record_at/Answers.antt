-- `parts::record_at` meets its contract: its eight numbers are the record's.
use mathlib.Core.Path.{◌∙◌}
use mathlib.Core.List.{[], ◌∷◌}
use native.Mathlib.Omega.{arith}
use Rattle.numbers.proofs.Areas.{words_length}
use Rattle.numbers.specs.Areas.{word}
use Rattle.numbers.specs.Words.{words}
use Rattle.parts.proofs.Records.{record_there}
use Rattle.parts.proofs.record_at.Goals as goal

pub returns : goal.returns
unfolding word
returns c =
    let file = c.args.file.now in
    (λ i. record { code = c.whole_word.ensures i; p = c.whole_word-2.ensures i; q = c.whole_word-3.ensures i; k = c.whole_word-4.ensures i; x = c.whole_word-5.ensures i ∷ c.whole_word-6.ensures i ∷ c.whole_word-7.ensures i ∷ c.whole_word-8.ensures i ∷ [] })
    ∙ record_there (words file) c.args.place (omega (arith, words_length file, c.requires))
