-- `parts::side_in` meets its contract: an array's code, or what stands past the last.
use Prim.Native.Nat.{◌+◌, ◌*◌}
use mathlib.Core.Path.{◌≡◌, sym, ap, ◌∙◌}
use lib.ListN.{get_or}
use native.Mathlib.Omega.{arith}
use Rattle.numbers.specs.Words.{words}
use Rattle.numbers.specs.Areas.{word}
use Rattle.numbers.proofs.Areas.{words_length}
use Rattle.kernel.specs.File.{numbers, side_of}
use Rattle.kernel.proofs.Sides.{side_nothing}
use Rattle.parts.proofs.Records.{number_there}
use Rattle.parts.proofs.Arrays.{array_is, array_past}
use Rattle.parts.proofs.side_in.Goals as goal

pub returns-then-j-n : goal.returns-then-j-n
unfolding word numbers side_of
returns-then-j-n c =
    let file = c.args.file.now in
    let at = 3 + 8 * c.args.j in
    let here : at ≡ at + 0 = omega arith in
    c.whole_word.ensures ∙ ap (λ k. get_or (words file) k 0) here ∙ sym (number_there (words file) at (omega (arith, words_length file, c.requires.1, c.if-j-n.true)) 0 (omega arith)) ∙ ap side_of (sym (array_is file c.args.n c.args.j c.if-j-n.true))

pub returns : goal.returns
returns c =
    let a = c.args in
    sym (ap side_of (array_past a.file.now a.n a.j c.if-j-n.false) ∙ side_nothing)
