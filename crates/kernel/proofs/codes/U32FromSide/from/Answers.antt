-- Each name has its number.
use Rattle.std.specs.Prelude.{◌+◌}
use mathlib.Core.Path.{◌≡◌, refl}
use denote.Enum.Declared.{tag_of}
use Rattle.kernel.specs.Named.{side}
use Rattle.kernel.specs.declared.codes.Side.{Side}
use Rattle.kernel.specs.declared.codes.Side.TheVariants as V
use Rattle.kernel.specs.contracts.codes.Side.{the_type}
use Rattle.kernel.proofs.codes.U32FromSide.from.Goals as goal

numbered : (x : Side) → tag_of the_type x + 1 ≡ side x
unfolding side
numbered V.Input = refl
numbered V.Output = refl

pub returns : goal.returns
returns c = numbered c.args.s
