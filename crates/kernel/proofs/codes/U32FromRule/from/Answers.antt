-- Each name has its number.
use Rattle.std.specs.Prelude.{◌+◌}
use mathlib.Core.Path.{◌≡◌, refl}
use denote.Enum.Declared.{tag_of}
use Rattle.kernel.specs.Named.{rule_number}
use Rattle.kernel.specs.declared.codes.Rule.{Rule}
use Rattle.kernel.specs.declared.codes.Rule.TheVariants as V
use Rattle.kernel.specs.contracts.codes.Rule.{the_type}
use Rattle.kernel.proofs.codes.U32FromRule.from.Goals as goal

numbered : (x : Rule) → tag_of the_type x + 1 ≡ rule_number x
unfolding rule_number
numbered V.Same = refl
numbered V.Read = refl
numbered V.Fill = refl
numbered V.Use = refl
numbered V.Move = refl
numbered V.Write = refl
numbered V.For = refl
numbered V.If = refl
numbered V.Else = refl
numbered V.End = refl

pub returns : goal.returns
returns c = numbered c.args.rule
