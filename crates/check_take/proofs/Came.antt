-- Answers of the code that are a place or a refusal: what a need that stops or goes on says.
use mathlib.Core.Path.{◌≡◌, refl, sym, ap, ◌∙◌}
use mathlib.Core.Bool.{Bool, true, false}
use Rattle.std.proofs.Common.{Result, Ok, Err}
use Rattle.std.specs.Result.{IsErrAnd, MatchResult}
use Rattle.std.proofs.lemmas.Result.{err_from_is_err_and}
use Rattle.kernel.specs.declared.refusals.Misfit.{Misfit}
use Rattle.check_take.specs.declared.Place.{Place}
use Rattle.check_take.specs.declared.Refused.{Refused}
use Rattle.check_take.specs.View.{Reached, refused, needed}

-- a refusal is no place
pub refuses : {A : Type 0} {r : Reached} {e : Refused} {to : Place} → r ≡ Err e → r ≡ Ok to → A
refuses p q = absurd (cc)

-- a need that stops, and one that goes on
module _ (at : Place) (m : Misfit) where
  pub need_stops : (t : Bool) {r : Result Unit Refused} {e : Refused} → r ≡ needed at m t → r ≡ Err e → t ≡ false
  need_stops true p q = absurd (cc)
  need_stops false p q = refl

  pub need_goes : (t : Bool) {r : Result Unit Refused} {u : Unit} → r ≡ needed at m t → r ≡ Ok u → t ≡ true
  need_goes true p q = refl
  need_goes false p q = absurd (cc)

  -- the refusal is the one that was needed
  need_refuses : (t : Bool) {r : Result Unit Refused} {e : Refused} → r ≡ needed at m t → r ≡ Err e → e ≡ refused at m
  need_refuses true p q = absurd (cc)
  need_refuses false p q = cc

  -- and so is the code's
  pub refused_so : (t : Bool) {r : Result Unit Refused} {e : Refused} (s : Reached) → r ≡ needed at m t → r ≡ Err e → IsErrAnd s (λ x. x ≡ e) → s ≡ Err (refused at m)
  refused_so t s p q h =
      let (x, is, same) = err_from_is_err_and s h in
      is ∙ ap (λ (x : Refused). Err x) (same ∙ need_refuses t p q)

-- ---- a misfit, refused there

unfoldable pub mapped : Place → Result Unit Misfit → Result Unit Refused
mapped at (Ok u) = Ok u
mapped at (Err m) = Err (refused at m)

pub mapped_by : (at : Place) (r : Result Unit Misfit) (s : Result Unit Refused) {P : Unit → Type 0} {Q : Misfit → Type 0} → MatchResult r P Q → ((u : Unit) → P u → s ≡ Ok u) → ((m : Misfit) → Q m → s ≡ Err (refused at m)) → s ≡ mapped at r
unfolding mapped
mapped_by at (Ok u) s p f g = f u p
mapped_by at (Err m) s q f g = g m q

module _ (at : Place) where
  pub mapped_stops : (r : Result Unit Misfit) {s : Result Unit Refused} {e : Refused} (t : Reached) → s ≡ mapped at r → s ≡ Err e → IsErrAnd t (λ x. x ≡ e) → (m : Misfit) × (r ≡ Err m) × (t ≡ Err (refused at m))
  unfolding mapped
  mapped_stops (Ok u) t p q h = absurd (cc)
  mapped_stops (Err m) t p q h =
      let (x, is, same) = err_from_is_err_and t h in
      let e = sym p ∙ q in
      (m, refl, cc)

  pub mapped_goes : (r : Result Unit Misfit) {s : Result Unit Refused} {u : Unit} → s ≡ mapped at r → s ≡ Ok u → r ≡ Ok tt
  unfolding mapped
  mapped_goes (Ok u) p q = refl
  mapped_goes (Err m) p q = absurd (cc)

-- one place
pub same_place : {a b : Place} → ◌≡◌ {A = Reached} (Ok a) (Ok b) → a ≡ b
same_place e = cc
