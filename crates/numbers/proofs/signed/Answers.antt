-- `numbers::signed` meets its contract: the library reads the word's bits as the definition does.
use Rattle.std.proofs.Common.{◌∙◌, w32, to_z-of_z}
use Rattle.numbers.specs.Words.{signed}
use Rattle.numbers.proofs.Signs.{as_returned}
use Rattle.numbers.proofs.signed.Goals as goal

pub returns : goal.returns
unfolding signed
returns c =
    as_returned {z = c.from.result} c.from.type_inv ∙ c.from.ensures ∙ to_z-of_z {w = w32} {z = c.cast_signed.result} (record { sfits = c.cast_signed.type_inv }) ∙ c.cast_signed.ensures
