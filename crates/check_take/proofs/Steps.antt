-- A plain rule is taken where nothing refuses it and its step is made.
use Prim.Native.Nat.{ℕ}
use mathlib.Core.Path.{◌≡◌, refl, sym, ap, subst, ◌∙◌}
use mathlib.Core.List.{List}
use Rattle.std.proofs.Common as Std
use Rattle.std.proofs.Common.{Ok, Err}
use Rattle.std.specs.Result.{IsErrAnd}
use Rattle.std.proofs.lemmas.Result.{err_from_is_err_and}
use Rattle.numbers.specs.Result.{ok, ◌>>=◌}
use Rattle.forms.specs.Form.{Loop}
use Rattle.kernel.specs.Derivation as Derivation
use Rattle.kernel.specs.Derivation.{Opened, went}
use Rattle.kernel.specs.Check as Check
use Rattle.kernel.specs.Named.{rule}
use Rattle.kernel.specs.declared.codes.Rule.{Rule}
use Rattle.kernel.specs.declared.refusals.Misfit.{Misfit}
use Rattle.parts.specs.declared.Kernel.{Kernel}
use Rattle.parts.specs.Records.{rec}
use Rattle.check_ledger.specs.declared.Ledger.{Ledger}
use Rattle.check_ledger.specs.View.{ledger}
use Rattle.check_rules.specs.declared.Pair.{Pair}
use Rattle.check_rules.specs.View.{answered, stepped, arrays_taken, Steps}
use Rattle.check_take.specs.declared.Place.{Place}
use Rattle.check_take.specs.declared.Refused.{Refused}
use Rattle.check_take.specs.View.{Reached, held_by, due, refused, with_ledger, further, Next, AtRule, Refuses, TakenPlain, ReadsOn, Onward}
use Rattle.check_take.proofs.Came.{refuses, same_place}
use Rattle.check_take.proofs.Comes.{here, Comes}
use Rattle.check_take.proofs.Taking.{no_rule, stopped, went_on}
use Rattle.check_take.proofs.Going.{onward, one_at_most}

-- no rule is due
pub none_taken : (k : Kernel) (at : Place) (around : List Loop) {l : Ledger} {r : Reached} {e : Refused} → due k at ≡ Err e → IsErrAnd r (λ x. x ≡ e) → TakenPlain k at l around (with_ledger r l)
none_taken k at around {l} {r} e h =
    let (x, is, same) = err_from_is_err_and r h in
    let refused = is ∙ ap (λ (x : Refused). Err x) same in
    record {
      as_defined = λ os o. no_rule k os at l os l e refused;
      onward = λ to. refuses refused;
      reads_on = λ to. refuses refused;
    }

module _ {k : Kernel} {l : Ledger} {around : List Loop} {q : Rule} {p : Pair} {answer : Std.Result Unit Misfit} (R : Refuses k l around q p answer)
    {at : Place} (there : AtRule k.counts at l) (e : due k at ≡ Ok q) (n : Next k at p) where
  abbrev stepped_on : List Opened → Derivation.Place
  stepped_on os = went 1 (arrays_taken (rule q)) 1 os (stepped (held_by k) (rule q) (rec p.array) (rec p.stream) (ledger k.counts.a k.counts.b l)) (here k os at l)

  comes : (os : List Opened) → Derivation.loops os ≡ around → {x : Std.Result Unit Misfit} → answer ≡ x → Comes k os at l (answered x >>= λ _. ok (stepped_on os))
  comes os o z = R.as_defined os at o e n ∙ ap (λ x. Check.at (here k os at l) (answered x >>= λ _. ok (stepped_on os))) z

  pub plain_refused : {r : Reached} {m : Misfit} → answer ≡ Err m → r ≡ Err (refused at m) → TakenPlain k at l around (with_ledger r l)
  unfolding answered ◌>>=◌
  plain_refused z f =
      record {
        as_defined = λ os o. stopped k os at l os l f (comes os o z);
        onward = λ to. refuses f;
        reads_on = λ to. refuses f;
      }

  pub plain_taken : {to : Place} {arrays : ℕ} {m : Ledger} → answer ≡ Ok tt → Steps k.file.now k.counts (rule q) (rec p.array) (rec p.stream) l m → arrays ≡ arrays_taken (rule q) → to ≡ further at arrays
      → TakenPlain k at l around (with_ledger (Ok to) m)
  unfolding answered ◌>>=◌
  plain_taken {to} {m = m} z S g f =
      let went = f ∙ ap (further at) g in
      record {
        as_defined = λ os o. went_on k os at l os m _ refl went S.as_said (comes os o z);
        onward = λ x h. subst (λ x. Onward k.counts at x m) (same_place h) (onward there (one_at_most (rule q)) (S.bounded at.rule there.stood.bounded) went);
        reads_on = λ x h opens r. subst (ReadsOn k opens) (sym went ∙ same_place h) (R.reads_on z at n opens r);
      }
