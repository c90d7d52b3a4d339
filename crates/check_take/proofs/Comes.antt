-- What the rule at a place comes to, by the definition: refused with 10 where it does not fit, else its effect.
use Prim.Native.Nat.{ℕ}
use mathlib.Core.Path.{◌≡◌, refl, sym, ap, ◌∙◌}
use mathlib.Core.Bool.{Bool, true, false}
use mathlib.Core.List.{List}
use Rattle.std.proofs.Common as Std
use Rattle.std.proofs.Common.{Ok, Err}
use Rattle.numbers.specs.Result.{Result, ok, stop, ◌>>=◌, need}
use Rattle.kernel.specs.File as File
use Rattle.kernel.specs.Derivation as Derivation
use Rattle.kernel.specs.Derivation.{Opened, went}
use Rattle.kernel.specs.Check as Check
use Rattle.kernel.specs.Check.{take_rule}
use Rattle.kernel.specs.Named.{rule, ruled}
use Rattle.kernel.specs.declared.codes.NoCode.{NoCode}
use Rattle.kernel.specs.declared.codes.Rule.{Rule}
use Rattle.kernel.specs.declared.refusals.Misfit.{Misfit}
use Rattle.kernel.specs.declared.refusals.Misfit.TheVariants.{DoesNotFit}
use Rattle.parts.specs.declared.Kernel.{Kernel}
use Rattle.parts.specs.Records.{rec}
use Rattle.parts.proofs.Parts.{registers_are}
use Rattle.check_ledger.specs.declared.Ledger.{Ledger}
use Rattle.check_ledger.specs.View.{ledger}
use Rattle.check_rules.specs.declared.Pair.{Pair}
use Rattle.check_rules.specs.View.{asked_there, answered, stepped, arrays_taken}
use Rattle.check_rules.proofs.Effects.{PlainRule, effect_is}
use Rattle.check_rules.proofs.Needs.{need_fails, need_holds}
use Rattle.check_take.specs.declared.Place.{Place}
use Rattle.check_take.specs.declared.Refused.{Refused}
use Rattle.check_take.specs.View.{held_by, place, refused, due, rule_or, rule_code, array_there, stream_there, Next, fits_there}
use Rattle.check_take.proofs.Decoded.{meant, decoded}

-- whether a rule fits the next statements, as the code answers it wherever the derivation stands
pub fits_next : {k : Kernel} {at : Place} {p : Pair} (r : Rule) {t : Bool} → Next k at p → ((K : File.Kernel) (d : Derivation.Place) → K.registers ≡ k.counts.r → t ≡ Check.fits K d (rule r) (rec p.array) (rec p.stream))
    → (d : Derivation.Place) → t ≡ fits_there k at r d
fits_next {k} r n said d =
    said (held_by k) d (registers_are k.file.now k.counts) ∙ (λ i. Check.fits (held_by k) d (rule r) (n.array_is i) (n.stream_is i))

-- whether a test holds or not
need_either : {A : Type 0} (number : ℕ) (t : Bool) (x : Result ℕ A) → x ≡ stop number → (need number t >>= λ _. x) ≡ stop number
unfolding need ◌>>=◌
need_either number true x e = e
need_either number false x e = refl

-- the rule that is due, to the definitions
module _ (k : Kernel) (at : Place) where
  meant_is : (r : Rule) (t : Std.Result Rule NoCode) → rule_or at t ≡ Ok r → meant t ≡ rule r
  unfolding rule_or
  meant_is r (Ok q) h = let same : q ≡ r = cc in ap rule same
  meant_is r (Err q) h = absurd (cc)

  due_is : {r : Rule} → due k at ≡ Ok r → Derivation.rule (rule_code k at) ≡ rule r
  due_is {r} e = decoded (rule_code k at) ∙ meant_is r (ruled (rule_code k at)) e

  -- none
  none_is : {e : Refused} (t : Std.Result Rule NoCode) → rule_or at t ≡ Err e → meant t ≡ Derivation.no_rule
  unfolding rule_or
  none_is (Ok q) h = absurd (cc)
  none_is (Err q) h = refl

  none_refused : {e : Refused} (t : Std.Result Rule NoCode) → rule_or at t ≡ Err e → e ≡ refused at DoesNotFit
  unfolding rule_or
  none_refused (Ok q) h = absurd (cc)
  none_refused (Err q) h = cc

  none_due : {e : Refused} → due k at ≡ Err e → Derivation.rule (rule_code k at) ≡ Derivation.no_rule
  none_due e = decoded (rule_code k at) ∙ none_is (ruled (rule_code k at)) e

  pub refused_none : {e : Refused} → due k at ≡ Err e → e ≡ refused at DoesNotFit
  refused_none e = none_refused (ruled (rule_code k at)) e

-- the rule there, with os open
module _ (k : Kernel) (os : List Opened) (at : Place) (l : Ledger) where
  abbrev pub here : Derivation.Place
  here = place k.counts.a k.counts.b os at l

  abbrev pub Fitting : Rule → Bool
  Fitting r = fits_there k at r here

  abbrev pub Effect : Rule → Result ℕ Derivation.Place
  Effect r = Check.effect (held_by k) here (rule r) (array_there k at) (stream_there k at)

  -- the definition takes it so
  abbrev pub Comes : Result ℕ Derivation.Place → Type 0
  Comes x = take_rule (held_by k) here ≡ Check.at here x

  by_rule : (r : Derivation.Rule) → Derivation.rule (rule_code k at) ≡ r → Comes (need 10 (Check.fits (held_by k) here r (array_there k at) (stream_there k at)) >>= λ _. Check.effect (held_by k) here r (array_there k at) (stream_there k at))
  unfolding Check.take_rule Check.follow Derivation.next_rule Derivation.next_array Derivation.next_stream
  by_rule r e = ap (λ r. Check.at here (Check.follow (held_by k) here r (array_there k at) (stream_there k at))) e

  pub unfit : (r : Rule) → due k at ≡ Ok r → Fitting r ≡ false → Comes (stop 10)
  unfit r e f = by_rule (rule r) (due_is k at e) ∙ ap (Check.at here) (need_fails 10 _ _ f)

  pub fit : (r : Rule) {x : Result ℕ Derivation.Place} → due k at ≡ Ok r → Fitting r ≡ true → Effect r ≡ x → Comes x
  fit r e f q = by_rule (rule r) (due_is k at e) ∙ ap (Check.at here) (need_holds 10 _ _ f ∙ q)

  -- a code that is no rule's
  pub none : {e : Refused} → due k at ≡ Err e → Comes (stop 10)
  unfolding Check.fits need ◌>>=◌
  none e = by_rule Derivation.no_rule (none_due k at e)

  -- refused with 10 whether it fits or not
  pub misplaced : (r : Rule) → due k at ≡ Ok r → Effect r ≡ stop 10 → Comes (stop 10)
  misplaced r e f = by_rule (rule r) (due_is k at e) ∙ ap (Check.at here) (need_either 10 (Fitting r) (Effect r) f)

  -- a rule that opens and closes no block, and what it asks, answered
  module _ (r : Rule) (e : due k at ≡ Ok r) (f : Fitting r ≡ true) (level : PlainRule (rule r))
      (answer : Std.Result Unit Misfit) (asks : answered answer ≡ asked_there (held_by k) here (rule r) (array_there k at) (stream_there k at)) where
    abbrev pub after : Derivation.Place
    after = went 1 (arrays_taken (rule r)) 1 os (stepped (held_by k) (rule r) (array_there k at) (stream_there k at) (ledger k.counts.a k.counts.b l)) here

    pub comes : Comes (answered answer >>= λ _. ok after)
    comes = fit r e f (effect_is (held_by k) here (rule r) (array_there k at) (stream_there k at) level ∙ ap (λ x. x >>= λ _. ok after) (sym asks))
