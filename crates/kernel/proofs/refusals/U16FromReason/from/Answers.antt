-- Each name has its number.
use Rattle.std.specs.Prelude.{◌+◌}
use mathlib.Core.Path.{◌≡◌, refl}
use denote.Enum.Declared.{tag_of}
use Rattle.kernel.specs.Named.{reason}
use Rattle.kernel.specs.declared.refusals.Reason.{Reason}
use Rattle.kernel.specs.declared.refusals.Reason.TheVariants as V
use Rattle.kernel.specs.contracts.refusals.Reason.{the_type}
use Rattle.kernel.proofs.refusals.U16FromReason.from.Goals as goal

numbered : (x : Reason) → tag_of the_type x + 31 ≡ reason x
unfolding reason
numbered V.Unset = refl
numbered V.ZeroDivisor = refl
numbered V.IndexOutside = refl
numbered V.StreamEmpty = refl
numbered V.StreamFull = refl

pub returns : goal.returns
returns c = numbered c.args.r
