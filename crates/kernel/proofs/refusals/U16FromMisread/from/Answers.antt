-- Each name has its number.
use Rattle.std.specs.Prelude.{◌+◌}
use mathlib.Core.Path.{◌≡◌, refl}
use denote.Enum.Declared.{tag_of}
use Rattle.kernel.specs.Named.{misread}
use Rattle.kernel.specs.declared.refusals.Misread.{Misread}
use Rattle.kernel.specs.declared.refusals.Misread.TheVariants as V
use Rattle.kernel.specs.contracts.refusals.Misread.{the_type}
use Rattle.kernel.proofs.refusals.U16FromMisread.from.Goals as goal

numbered : (x : Misread) → tag_of the_type x + 1 ≡ misread x
unfolding misread
numbered V.BadLength = refl
numbered V.CountOutside = refl
numbered V.FieldOutside = refl
numbered V.BlocksUnmatched = refl
numbered V.TooDeep = refl

pub returns : goal.returns
returns c = numbered c.args.m
