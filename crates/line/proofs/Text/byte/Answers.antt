-- `line::Text::byte` meets its contract: the last zero becomes the byte.
use native.Mathlib.Omega.{arith}
use Rattle.line.proofs.Texts.{one_more}
use Rattle.line.proofs.Text.byte.Goals as goal

pub returns : goal.returns
returns c =
    (one_more c.args.self c.args.b c.requires.0, omega (arith, c.requires.0))
