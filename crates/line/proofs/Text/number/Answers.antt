-- `line::Text::number` meets its contract: the digits, and a space before them.
use native.Mathlib.Omega.{arith}
use Rattle.line.proofs.Text.number.Goals as goal

pub returns : goal.returns
returns c =
    let digits = c.decimal-t.ensures in (
      λ t s. c.byte.ensures.0 _ (digits.0 t s),
      omega (arith, digits.1, c.byte.ensures.1),
      omega (arith, digits.2, c.byte.ensures.1),
    )
