-- Each name has its number.
use Rattle.std.specs.Prelude.{◌+◌}
use mathlib.Core.Path.{◌≡◌, refl}
use denote.Enum.Declared.{tag_of}
use Rattle.kernel.specs.Named.{code}
use Rattle.kernel.specs.declared.codes.Code.{Code}
use Rattle.kernel.specs.declared.codes.Code.TheVariants as V
use Rattle.kernel.specs.contracts.codes.Code.{the_type}
use Rattle.kernel.proofs.codes.U32FromCode.from.Goals as goal

numbered : (x : Code) → tag_of the_type x + 1 ≡ code x
unfolding code
numbered V.Set = refl
numbered V.Copy = refl
numbered V.Work = refl
numbered V.Load = refl
numbered V.Store = refl
numbered V.Read = refl
numbered V.Write = refl
numbered V.For = refl
numbered V.If = refl
numbered V.Else = refl
numbered V.End = refl

pub returns : goal.returns
returns c = numbered c.args.c
