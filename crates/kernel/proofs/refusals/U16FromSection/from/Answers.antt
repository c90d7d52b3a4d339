-- Each name has its number.
use Rattle.std.specs.Prelude.{◌+◌}
use mathlib.Core.Path.{◌≡◌, refl}
use denote.Enum.Declared.{tag_of}
use Rattle.kernel.specs.Named.{section}
use Rattle.kernel.specs.declared.refusals.Section.{Section}
use Rattle.kernel.specs.declared.refusals.Section.TheVariants as V
use Rattle.kernel.specs.contracts.refusals.Section.{the_type}
use Rattle.kernel.proofs.refusals.U16FromSection.from.Goals as goal

numbered : (x : Section) → tag_of the_type x + 1 ≡ section x
unfolding section
numbered V.Registers = refl
numbered V.Buffers = refl
numbered V.Arrays = refl
numbered V.ArrayProgram = refl
numbered V.StreamProgram = refl
numbered V.Derivation = refl

pub returns : goal.returns
returns c = numbered c.args.s
