-- The rule of a code, decoded: as the definitions have it, and no rule where there is none.
use Prim.Native.Nat.{ℕ, zero, suc}
use mathlib.Core.Path.{◌≡◌, refl}
use Rattle.std.proofs.Common.{Result, Ok, Err}
use Rattle.std.specs.Result.{MatchResult}
use Rattle.kernel.specs.Derivation as Derivation
use Rattle.kernel.specs.Named.{rule, ruled}
use Rattle.kernel.specs.declared.codes.NoCode.{NoCode}
use Rattle.kernel.specs.declared.codes.Rule.{Rule}
use Rattle.kernel.specs.declared.refusals.Misfit.TheVariants.{DoesNotFit}
use Rattle.check_rules.specs.View as Rules
use Rattle.check_take.specs.declared.Place.{Place}
use Rattle.check_take.specs.declared.Refused.{Refused}
use Rattle.check_take.specs.View.{rule_or, refused}

-- what it is to the definitions
abbrev pub meant : Result Rule NoCode → Derivation.Rule
meant = Rules.meant

pub decoded : (w : ℕ) → Derivation.rule w ≡ meant (ruled w)
unfolding Derivation.rule ruled rule
decoded zero = refl
decoded (suc zero) = refl
decoded (suc (suc zero)) = refl
decoded (suc (suc (suc zero))) = refl
decoded (suc (suc (suc (suc zero)))) = refl
decoded (suc (suc (suc (suc (suc zero))))) = refl
decoded (suc (suc (suc (suc (suc (suc zero)))))) = refl
decoded (suc (suc (suc (suc (suc (suc (suc zero))))))) = refl
decoded (suc (suc (suc (suc (suc (suc (suc (suc zero)))))))) = refl
decoded (suc (suc (suc (suc (suc (suc (suc (suc (suc zero))))))))) = refl
decoded (suc (suc (suc (suc (suc (suc (suc (suc (suc (suc zero)))))))))) = refl
decoded (suc (suc (suc (suc (suc (suc (suc (suc (suc (suc (suc n))))))))))) = refl

-- another rule
pub no_other : {r q : Rule} → (r ≡ q → ⊥) → ◌≡◌ {A = Result Rule NoCode} (Ok r) (Ok q) → ⊥
no_other {r} {q} n e = n same
  where
    same : r ≡ q
    same = cc

-- as the code hands it on
pub decoded_by : (at : Place) (t : Result Rule NoCode) (r : Result Rule Refused) {P : Rule → Type 0} {Q : NoCode → Type 0} → MatchResult t P Q → ((x : Rule) → P x → r ≡ Ok x) → ((e : NoCode) → Q e → r ≡ Err (refused at DoesNotFit)) → r ≡ rule_or at t
unfolding rule_or
decoded_by at (Ok x) r p f g = f x p
decoded_by at (Err e) r q f g = g e q
