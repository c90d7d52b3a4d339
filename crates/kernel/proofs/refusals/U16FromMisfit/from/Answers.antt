-- Each name has its number.
use Rattle.std.specs.Prelude.{◌+◌}
use mathlib.Core.Path.{◌≡◌, refl}
use denote.Enum.Declared.{tag_of}
use Rattle.kernel.specs.Named.{misfit}
use Rattle.kernel.specs.declared.refusals.Misfit.{Misfit}
use Rattle.kernel.specs.declared.refusals.Misfit.TheVariants as V
use Rattle.kernel.specs.contracts.refusals.Misfit.{the_type}
use Rattle.kernel.proofs.refusals.U16FromMisfit.from.Goals as goal

numbered : (x : Misfit) → tag_of the_type x + 10 ≡ misfit x
unfolding misfit
numbered V.DoesNotFit = refl
numbered V.PastCount = refl
numbered V.NotNextIndex = refl
numbered V.NotHeld = refl
numbered V.UntrueAtEntry = refl
numbered V.NotKept = refl
numbered V.BranchesDiffer = refl
numbered V.StatementsLeft = refl
numbered V.BlockOpen = refl
numbered V.NotCounted = refl

pub returns : goal.returns
returns c = numbered c.args.f
