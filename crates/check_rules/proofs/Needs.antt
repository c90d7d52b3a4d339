-- Needs and the code's answers: one after the other.
use Prim.Native.Nat.{ℕ}
use mathlib.Core.Path.{◌≡◌, refl, sym, ap, ◌∙◌}
use mathlib.Core.Bool.{Bool, true, false}
use Rattle.std.proofs.Common as Std
use Rattle.std.proofs.Common.{Ok, Err, Option, None, Some}
use Rattle.std.specs.Option.{is_some}
use Rattle.std.specs.Result.{IsErrAnd}
use Rattle.std.proofs.lemmas.Result.{err_from_is_err_and}
use Rattle.numbers.specs.Result.{Result, stop, ◌>>=◌, need}
use Rattle.kernel.specs.declared.refusals.Misfit.{Misfit}
use Rattle.kernel.specs.Named.{misfit}
use Rattle.kernel.specs.Check.{something}
use Rattle.check_ledger.specs.declared.Held.{Held}
use Rattle.check_ledger.specs.View.{held}
use Rattle.check_rules.specs.View.{answered}

module _ {A : Type 0} (number : ℕ) (t : Bool) (f : Unit {0} → Result ℕ A) where
  pub need_fails : t ≡ false → (need number t >>= f) ≡ stop number
  unfolding need ◌>>=◌
  need_fails e = ap (λ t. need number t >>= f) e

  pub need_holds : t ≡ true → (need number t >>= f) ≡ f tt
  unfolding need ◌>>=◌
  need_holds e = ap (λ t. need number t >>= f) e

-- ---- an answer of the code, and what is asked after it

module _ {A : Type 0} {r : Std.Result Unit Misfit} {t : Result ℕ (Unit {0})} (e : answered r ≡ t) (f : Unit {0} → Result ℕ A) where
  pub answer_stops : {m : Misfit} → r ≡ Err m → (t >>= f) ≡ stop (misfit m)
  unfolding answered ◌>>=◌
  answer_stops h = ap (λ t. t >>= f) (sym e ∙ ap answered h)

  pub answer_goes : {u : Unit} → r ≡ Ok u → (t >>= f) ≡ f tt
  unfolding answered ◌>>=◌
  answer_goes h = ap (λ t. t >>= f) (sym e ∙ ap answered h)

-- ---- an answer of the code to a need

module _ (number : ℕ) where
  pub need_stopped : (t : Bool) {r : Std.Result Unit Misfit} {m : Misfit} → answered r ≡ need number t → r ≡ Err m → t ≡ false
  unfolding answered need
  need_stopped true e h = let q = sym e ∙ ap answered h in absurd (cc)
  need_stopped false e h = refl

  pub need_went : (t : Bool) {r : Std.Result Unit Misfit} {u : Unit} → answered r ≡ need number t → r ≡ Ok u → t ≡ true
  unfolding answered need
  need_went true e h = refl
  need_went false e h = let q = sym e ∙ ap answered h in absurd (cc)

  -- handed on
  pub answers_so : (t : Bool) {r : Std.Result Unit Misfit} (s : Std.Result Unit Misfit) {m : Misfit} → answered r ≡ need number t → r ≡ Err m → IsErrAnd s (λ x. x ≡ m) → answered s ≡ stop number
  unfolding answered need
  answers_so t s e h g =
      let (x, is, same) = err_from_is_err_and s g in
      ap answered is ∙ ap (λ (x : Misfit). stop (misfit x)) same ∙ sym (ap answered h) ∙ e ∙ ap (need number) (need_stopped t e h)

-- a refusal is no answer that goes on
pub no_misfit : {A : Type 0} {s : Std.Result Unit Misfit} {number : ℕ} {u : Unit} → answered s ≡ stop number → s ≡ Ok u → A
unfolding answered
no_misfit e h = let q = sym e ∙ ap answered h in absurd (cc)

-- what a buffer holds is something where there is any
pub something_held : (h : Option Held) → is_some h ≡ something (held h)
unfolding something held
something_held None = refl
something_held (Some h) = refl
