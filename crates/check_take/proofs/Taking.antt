-- How the code takes the rule at a place: refused with 10 where it does not fit or does not close the innermost block, else by its effect.
use Prim.Native.Nat.{ℕ}
use mathlib.Core.Path.{◌≡◌, refl, sym, ap, ◌∙◌}
use mathlib.Core.Bool.{Bool, true, false}
use mathlib.Core.Logic.{inl, inr}
use mathlib.Core.List.{List, [], ◌∷◌, ◌++◌}
use lib.ListN.{length}
use Rattle.std.proofs.Common.{Ok, Err}
use Rattle.numbers.specs.Result.{Result, ok, stop, ◌>>=◌, need, because}
use Rattle.forms.specs.Form as F
use Rattle.kernel.specs.Ledger as L
use Rattle.kernel.specs.Derivation as Derivation
use Rattle.kernel.specs.Derivation.{Opened, in_for, in_if, in_else, went}
use Rattle.kernel.specs.Check as Check
use Rattle.kernel.specs.Named.{misfit, rule}
use Rattle.kernel.specs.declared.codes.Rule.{Rule}
use Rattle.kernel.specs.declared.codes.Rule.TheVariants.{If, Else, End}
use Rattle.kernel.specs.declared.refusals.Misfit.{Misfit}
use Rattle.parts.specs.declared.Kernel.{Kernel}
use Rattle.check_ledger.specs.declared.Ledger.{Ledger}
use Rattle.check_ledger.specs.View.{ledger}
use Rattle.check_take.specs.declared.Place.{Place}
use Rattle.check_take.specs.declared.Refused.{Refused}
use Rattle.check_take.specs.View.{Reached, due, goes, refused, with_ledger, further, TakesRule, Closing, Closes}
use Rattle.check_take.proofs.Comes.{refused_none, here, Effect, Comes, unfit, fit, none, misplaced}

-- ---- the code takes it so

module _ (k : Kernel) (os : List Opened) (at : Place) (l : Ledger) where
  module _ (os' : List Opened) (m : Ledger) {r : Reached} where
    -- whatever the ledger is then
    pub stopped : {n : Misfit} → r ≡ Err (refused at n) → Comes k os at l (stop (misfit n)) → TakesRule k os at l os' (with_ledger r m)
    unfolding goes Check.at because
    stopped e t = ap (goes k.counts.a k.counts.b os' m) e ∙ sym t

    pub went_on : (arrays : ℕ) {M : L.Ledger} {to : Place} → r ≡ Ok to → to ≡ further at arrays → ledger k.counts.a k.counts.b m ≡ M
        → Comes k os at l (ok (went 1 arrays 1 os' M (here k os at l))) → TakesRule k os at l os' (with_ledger r m)
    unfolding goes Check.at because went
    went_on arrays e g f t =
        ap (goes k.counts.a k.counts.b os' m) (e ∙ ap (λ to. Ok to) g)
        ∙ ap (λ M. ok (record { rule = (further at arrays).rule; array = (further at arrays).array; stream = (further at arrays).stream; opened = os'; ledger = M })) f
        ∙ sym t

  -- a code that is no rule's
  pub no_rule : (os' : List Opened) (m : Ledger) {r : Reached} {e : Refused} → due k at ≡ Err e → r ≡ Err e → TakesRule k os at l os' (with_ledger r m)
  unfolding misfit
  no_rule os' m none_due is = stopped os' m (is ∙ ap (λ e. Err e) (refused_none k at none_due)) (none k os at l none_due)

  -- ---- an else or an end

  pub closes : (r : Rule) {t : Bool} {x : Result ℕ Derivation.Place} → Closes k at r t → t ≡ true → Effect k os at l r ≡ x → Comes k os at l x
  closes r s p = fit k os at l r (s.is p) (s.fits p (here k os at l))

  not_closed : (r : Rule) {t : Bool} → due k at ≡ Ok r → Closes k at r t → t ≡ false → Comes k os at l (stop 10)
  not_closed r e s p = unfit k os at l r e (s.not p e (here k os at l))

  pub not_else : {t : Bool} → Closing k at → Effect k os at l End ≡ stop 10 → Closes k at Else t → t ≡ false → Comes k os at l (stop 10)
  not_else (inl e) f s p = not_closed Else e s p
  not_else (inr e) f s p = misplaced k os at l End e f

  pub not_end : {t : Bool} → Closing k at → Effect k os at l Else ≡ stop 10 → Closes k at End t → t ≡ false → Comes k os at l (stop 10)
  not_end (inl e) f s p = misplaced k os at l Else e f
  not_end (inr e) f s p = not_closed End e s p

-- ---- by the innermost block

module _ (k : Kernel) (os : List Opened) (at : Place) (l : Ledger) where
  abbrev M : L.Ledger
  M = ledger k.counts.a k.counts.b l

  pub if_opens : Effect k os at l If ≡ ok (went 1 1 1 (in_if M ∷ os) M (here k os at l))
  unfolding Check.effect rule
  if_opens = refl

  module _ (start : L.Ledger) where
    pub if_stops : Effect k (in_if start ∷ os) at l End ≡ stop 10
    unfolding Check.effect Check.at_end rule
    if_stops = refl

    pub if_turns : Effect k (in_if start ∷ os) at l Else ≡ ok (went 1 1 1 (in_else M ∷ os) start (here k (in_if start ∷ os) at l))
    unfolding Check.effect Check.at_else rule
    if_turns = refl

  module _ (first : L.Ledger) where
    pub else_stops : Effect k (in_else first ∷ os) at l Else ≡ stop 10
    unfolding Check.effect Check.at_else rule
    else_stops = refl

    pub else_ends : (around : List F.Loop) → Derivation.loops os ≡ around → Effect k (in_else first ∷ os) at l End
        ≡ (need 16 (L.same_positions around first M) >>= λ _. ok (went 1 1 1 os (L.merged around first M) (here k (in_else first ∷ os) at l)))
    unfolding Check.effect Check.at_end Derivation.loops rule
    else_ends around e = ap (λ ls. need 16 (L.same_positions ls first M) >>= λ _. ok (went 1 1 1 os (L.merged ls first M) (here k (in_else first ∷ os) at l))) e

  module _ (own : F.Loop) (rows : L.Ledger) where
    pub for_stops : Effect k (in_for own rows ∷ os) at l Else ≡ stop 10
    unfolding Check.effect Check.at_else rule
    for_stops = refl

    pub for_ends : (level : ℕ) (inside : List F.Loop) → length (Derivation.loops os) ≡ level → Derivation.loops os ++ own ∷ [] ≡ inside → Effect k (in_for own rows ∷ os) at l End
        ≡ (need 15 (L.rows_true inside (L.each (F.moved_by level own.step) rows) M) >>= λ _. ok (went 1 1 1 os (L.each (F.put_at level (F.limit own)) rows) (here k (in_for own rows ∷ os) at l)))
    unfolding Check.effect Check.at_end Derivation.loops rule
    for_ends level inside e f =
        λ i. need 15 (L.rows_true (f i) (L.each (F.moved_by (e i) own.step) rows) M) >>= λ _. ok (went 1 1 1 os (L.each (F.put_at (e i) (F.limit own)) rows) (here k (in_for own rows ∷ os) at l))
