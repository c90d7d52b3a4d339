-- What a number's code is, where it was found to be one.
use Rattle.std.specs.Prelude.{Result, Ok, Err}
use Rattle.std.specs.Result.{IsErr}
use Prim.Native.Nat.{ℕ}
use mathlib.Core.Path.{◌≡◌, refl, sym, ap, subst, ◌∙◌}
use mathlib.Core.Bool.{false, true}
use lib.Dec.{T}
use Rattle.kernel.specs.declared.codes.Code.{Code}
use Rattle.kernel.specs.declared.codes.NoCode.{NoCode}
use Rattle.kernel.specs.File as File
use Rattle.kernel.specs.Named.{code, coded}
use Rattle.kernel.proofs.Named.{coded_is}
use Rattle.parts.specs.declared.statements.Statement.{Statement}
use Rattle.parts.specs.Statements.{stated}

pub means : (w : ℕ) {t : Result Code NoCode} {x : Code} (y : Code) → t ≡ coded w → t ≡ Ok x → x ≡ y → w ≡ code y
means w y e f g = coded_is w y (sym e ∙ f ∙ ap Ok g)

pub stated_err : (r : Result Statement NoCode) → IsErr r → stated r ≡ File.none
unfolding stated
stated_err (Ok s) h = absurd (no h)
  where
    no : false ≡ true → ⊥
    no e = subst T (sym e) tt
stated_err (Err e) h = refl
