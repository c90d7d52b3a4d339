-- Each name has its number.
use Rattle.std.specs.Prelude.{◌+◌}
use mathlib.Core.Path.{◌≡◌, refl}
use denote.Enum.Declared.{tag_of}
use Rattle.kernel.specs.Named.{row}
use Rattle.kernel.specs.declared.codes.Row.{Row}
use Rattle.kernel.specs.declared.codes.Row.TheVariants as V
use Rattle.kernel.specs.contracts.codes.Row.{the_type}
use Rattle.kernel.proofs.codes.U32FromRow.from.Goals as goal

numbered : (x : Row) → tag_of the_type x + 11 ≡ row x
unfolding row
numbered V.Position = refl
numbered V.Buffer = refl

pub returns : goal.returns
returns c = numbered c.args.r
