-- How the walk goes on: a rule that is taken, one stretch after another, and where a block stops.
use Prim.Native.Nat.{ℕ, ◌≤◌, ◌<◌}
use mathlib.Core.Path.{◌≡◌, refl, sym, ap, subst, ◌∙◌}
use mathlib.Core.Bool.{Bool, true, false, not, ◌&&◌}
use mathlib.Core.Logic.{inl, inr}
use mathlib.Core.List.{List, []}
use native.Mathlib.Omega.{arith}
use lib.Dec.{leb}
use lib.ListN.{length}
use Rattle.std.proofs.Common as Std
use Rattle.std.proofs.Common.{Ok, Err, leb-true, le-leb}
use Rattle.std.specs.Result.{IsErrAnd}
use Rattle.std.proofs.lemmas.Bool.{not-true}
use Rattle.std.proofs.lemmas.Result.{err_from_is_err_and}
use Rattle.numbers.proofs.Tests.{and_left, and_right, and_true}
use Rattle.numbers.specs.Result.{Result, stop, ◌>>=◌, need, because}
use Rattle.kernel.specs.File as File
use Rattle.kernel.specs.Derivation as Derivation
use Rattle.kernel.specs.Derivation.{Opened}
use Rattle.kernel.specs.Check as Check
use Rattle.kernel.specs.Check.{no_block, finish, walk_on}
use Rattle.kernel.specs.Named.{misfit, rule, ruled}
use Rattle.kernel.specs.declared.codes.NoCode.{NoCode}
use Rattle.kernel.specs.declared.codes.Rule.{Rule}
use Rattle.kernel.specs.declared.codes.Rule.TheVariants.{Else, End}
use Rattle.kernel.specs.declared.refusals.Misfit.{Misfit}
use Rattle.kernel.specs.declared.refusals.Misfit.TheVariants.{DoesNotFit, StatementsLeft, BlockOpen}
use Rattle.kernel.proofs.Walking.{walk_over, walk_take, none_open}
use Rattle.parts.specs.declared.Kernel.{Kernel}
use Rattle.parts.proofs.Parts.{array_count, stream_count, rule_count}
use Rattle.check_ledger.specs.declared.Ledger.{Ledger}
use Rattle.check_take.specs.declared.Place.{Place}
use Rattle.check_take.specs.declared.Refused.{Refused}
use Rattle.check_take.specs.View.{Reached, held_by, place, standing, goes, refusal, refused, with_ledger, Taken, taken, rule_code, rule_or, due, array_there, stream_there, TakesRule, Closing}
use Rattle.check_take.proofs.Came.{refuses, same_place}
use Rattle.check_take.proofs.Decoded.{meant, decoded}
use Rattle.check_take.proofs.Comes.{misplaced}
use Rattle.check_walk.specs.View.{Goes, Rests, Stops}

-- a refusal that is passed on
pub passed_on : {A B : Type 0} {r : Std.Result A Refused} {s : Std.Result B Refused} {e : Refused} → r ≡ Err e → IsErrAnd s (λ x. x ≡ e) → s ≡ Err e
passed_on {s = s} p h =
    let (x, is, same) = err_from_is_err_and s h in
    is ∙ ap (λ (x : Refused). Err x) same

module _ (k : Kernel) where
  abbrev K : File.Kernel
  K = held_by k

  abbrev there : List Opened → Place → Ledger → Derivation.Place
  there os at l = place k.counts.a k.counts.b os at l

  -- ---- one stretch after another

  pub goes_on : (os : List Opened) (r : Taken) {to : Place} → r.came ≡ Ok to → (taken k.counts.a k.counts.b os r >>= walk_on K) ≡ walk_on K (there os to r.ledger)
  unfolding goes ◌>>=◌
  goes_on os r e = ap (λ came. goes k.counts.a k.counts.b os r.ledger came >>= walk_on K) e

  pub goes_nowhere : (os : List Opened) (r : Taken) {e : Refused} → r.came ≡ Err e → (taken k.counts.a k.counts.b os r >>= walk_on K) ≡ stop (refusal e)
  unfolding goes ◌>>=◌
  goes_nowhere os r e = ap (λ came. goes k.counts.a k.counts.b os r.ledger came >>= walk_on K) e

  -- nothing taken
  pub goes_none : (os : List Opened) (at : Place) (l : Ledger) → Goes k os at l os (standing at l)
  goes_none os at l = sym (goes_on os (standing at l) refl)

  -- a rule taken
  pub goes_rule : (os os' : List Opened) (at : Place) (l : Ledger) (r : Taken) → at.rule < k.counts.d → TakesRule k os at l os' r → Goes k os at l os' r
  goes_rule os os' at l r h t =
      walk_take K (there os at l) (omega (arith, h, rule_count k.file.now k.counts)) ∙ ap (λ x. x >>= walk_on K) (sym t)

  -- one stretch, then another
  pub goes_then : (os os₁ os₂ : List Opened) (at : Place) (l : Ledger) (e r : Taken) {to : Place} → Goes k os at l os₁ e → e.came ≡ Ok to → Goes k os₁ to e.ledger os₂ r → Goes k os at l os₂ r
  goes_then os os₁ os₂ at l e r g z h = g ∙ goes_on os₁ e z ∙ h

  -- a refusal stays one, whatever is open and whatever the ledger is then
  pub goes_stop : (os os₁ os₂ : List Opened) (at : Place) (l : Ledger) (e r : Taken) {x : Refused} → Goes k os at l os₁ e → e.came ≡ Err x → r.came ≡ Err x → Goes k os at l os₂ r
  goes_stop os os₁ os₂ at l e r g z y = g ∙ goes_nowhere os₁ e z ∙ sym (goes_nowhere os₂ r y)

  -- a code that is no rule's
  module _ (os : List Opened) (at : Place) (l : Ledger) where
    misses : (t : Std.Result Rule NoCode) {x : Refused} → Derivation.rule (rule_code k at) ≡ meant t → rule_or at t ≡ Err x → Check.take_rule K (there os at l) ≡ stop (refusal x)
    unfolding rule_or Check.take_rule Check.follow Check.fits Derivation.next_rule Derivation.next_array Derivation.next_stream Check.at because need ◌>>=◌ misfit
    misses (Ok r) d e = absurd (cc)
    misses (Err n) {x} d e =
        let same : refused at DoesNotFit ≡ x = cc in
        ap (λ r. Check.at (there os at l) (Check.follow K (there os at l) r (array_there k at) (stream_there k at))) d ∙ ap (λ x. stop (refusal x)) same

    pub goes_missing : (r : Taken) {x : Refused} → at.rule < k.counts.d → due k at ≡ Err x → r.came ≡ Err x → Goes k os at l os r
    unfolding ◌>>=◌
    goes_missing r h e y =
        walk_take K (there os at l) (omega (arith, h, rule_count k.file.now k.counts))
        ∙ ap (λ x. x >>= walk_on K) (misses (ruled (rule_code k at)) (decoded (rule_code k at)) e)
        ∙ sym (goes_nowhere os r y)

  -- ---- where a block stops

  -- the derivation is over; `d` says whether both programs are
  module _ (at : Place) (l : Ledger) (h : k.counts.d ≤ at.rule) (os : List Opened) where
    abbrev pub ending : Bool → Bool → Result ℕ (Unit {0})
    ending d o = do
      _ ← need 17 d
      _ ← need 18 o
      need 19 (Check.all_counted K (there os at l).ledger)

    over_with : {d t o : Bool} → d ≡ (leb k.counts.s at.array && leb k.counts.t at.stream) → d ≡ t → no_block os ≡ o → walk_on K (there os at l) ≡ Check.at (there os at l) (ending t o)
    unfolding finish
    over_with {d} {t} done e f =
        let p : (leb (length K.array_program) at.array && leb (length K.stream_program) at.stream) ≡ t =
        (λ i. leb (array_count k.file.now k.counts i) at.array && leb (stream_count k.file.now k.counts i) at.stream) ∙ sym done ∙ e in
        walk_over K (there os at l) (omega (arith, h, rule_count k.file.now k.counts)) ∙ (λ i. Check.at (there os at l) (ending (p i) (f i)))

    pub over_done : {o : Bool} → k.counts.s ≤ at.array → k.counts.t ≤ at.stream → no_block os ≡ o → walk_on K (there os at l) ≡ Check.at (there os at l) (ending true o)
    over_done s t f = over_with refl (and_true (le-leb _ _ s) (le-leb _ _ t)) f

  module _ (inside : Bool) (at : Place) (l : Ledger) where
    stops_with : {r : Reached} (m : Misfit) → r ≡ Err (refused at m) → ((os : List Opened) → no_block os ≡ not inside → walk_on K (there os at l) ≡ stop (refusal (refused at m))) → Stops k inside at l r
    stops_with {r} m e g = ((λ os o. g os o ∙ sym (goes_nowhere os (with_ledger r l) e)), λ to q. refuses e q)

    -- a block that stops just where it stands
    stands : {r : Reached} → r ≡ Ok at → Rests k inside at → Stops k inside at l r
    stands q s = ((λ os o. subst (λ r. Goes k os at l os (with_ledger r l)) (sym q) (goes_none os at l)), λ to p. by (same_place (sym q ∙ p)))
      where
        by : {to : Place} → at ≡ to → (to ≡ at) × Rests k inside to
        by e = (sym e, subst (Rests k inside) e s)

    module _ (h : k.counts.d ≤ at.rule) (d : Bool) (done : d ≡ (leb k.counts.s at.array && leb k.counts.t at.stream)) where
      pub over_left : {r : Reached} → d ≡ false → r ≡ Err (refused at StatementsLeft) → Stops k inside at l r
      unfolding Check.at because need ◌>>=◌ misfit
      over_left e q = stops_with StatementsLeft q (λ os o. over_with at l h os done e refl)

      pub over_block : {r : Reached} → d ≡ true → not inside ≡ false → r ≡ Err (refused at BlockOpen) → Stops k inside at l r
      unfolding Check.at because need ◌>>=◌ misfit
      over_block e b q = stops_with BlockOpen q (λ os o. over_with at l h os done e (o ∙ b))

      -- the code's flag says whether a block is open
      pub over_stands : {r : Reached} → d ≡ true → not inside ≡ true → r ≡ Ok at → Stops k inside at l r
      unfolding Rests
      over_stands e b q =
          let both = sym done ∙ e in
          let s = leb-true k.counts.s at.array (and_left _ _ both) in
          let t = leb-true k.counts.t at.stream (and_right _ _ both) in
          stands q (subst (λ inside. Rests k inside at) (sym (not-true inside b)) (h, s, t))

    stray_takes : Closing k at → Check.take_rule K (there [] at l) ≡ stop (refusal (refused at DoesNotFit))
    unfolding Check.effect Check.at_else Check.at_end Check.at because misfit rule
    stray_takes (inl e) = misplaced k [] at l Else e refl
    stray_takes (inr e) = misplaced k [] at l End e refl

    -- an else or an end where no block is open
    pub stray : {r : Reached} → at.rule < k.counts.d → Closing k at → inside ≡ false → r ≡ Err (refused at DoesNotFit) → Stops k inside at l r
    unfolding ◌>>=◌
    stray h c b q = stops_with DoesNotFit q (λ os o.
        ap (λ os. walk_on K (there os at l)) (none_open os (o ∙ ap not b))
        ∙ walk_take K (there [] at l) (omega (arith, h, rule_count k.file.now k.counts))
        ∙ ap (λ x. x >>= walk_on K) (stray_takes c))

    pub closes : {r : Reached} → at.rule < k.counts.d → Closing k at → inside ≡ true → r ≡ Ok at → Stops k inside at l r
    unfolding Rests
    closes h c b q = stands q (subst (λ inside. Rests k inside at) (sym b) (h, c))

  pub comes_inside : (at : Place) → Rests k true at → (at.rule < k.counts.d) × Closing k at
  unfolding Rests
  comes_inside at h = h

  pub comes_over : (at : Place) → Rests k false at → (k.counts.d ≤ at.rule) × (k.counts.s ≤ at.array) × (k.counts.t ≤ at.stream)
  unfolding Rests
  comes_over at h = h
