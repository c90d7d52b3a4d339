-- Stretches of the walk inside a for or an if, for every row of open blocks with the same loops around; and what has been passed over.
use Prim.Native.Nat.{◌+◌, ◌<◌}
use mathlib.Core.Path.{◌≡◌, refl, sym, ap, subst, ◌∙◌}
use mathlib.Core.Bool.{Bool, true}
use mathlib.Core.List.{List, [], ◌∷◌, ◌++◌}
use native.Mathlib.Omega.{arith}
use Rattle.std.proofs.Common.{Ok, Err}
use Rattle.forms.specs.Form as F
use Rattle.forms.specs.declared.Loop.{Loop}
use Rattle.forms.specs.declared.Loops.{Loops}
use Rattle.forms.specs.Code.{loop, loops}
use Rattle.kernel.specs.Reading.{Open, open_for, open_if, open_else, open_loops}
use Rattle.kernel.specs.Derivation as S
use Rattle.kernel.specs.Derivation.{Opened}
use Rattle.kernel.specs.Check.{no_block}
use Rattle.parts.specs.declared.Kernel.{Kernel}
use Rattle.check_ledger.specs.declared.Ledger.{Ledger}
use Rattle.check_ledger.specs.View.{ledger}
use Rattle.check_take.specs.declared.Place.{Place}
use Rattle.check_take.specs.declared.Refused.{Refused}
use Rattle.check_take.specs.View.{Reached, Taken, with_ledger, standing, Stood, AtRule, Onward, loop_there, TakesRule, Closing, ReadsOn, Enters, TakenPlain, EnteredFor, LeftFor, EnteredIf, Turned, LeftIf}
use Rattle.check_take.proofs.Came.{refuses}
use Rattle.check_walk.specs.View.{Goes, Rests, Stops, Further, Opens, BlockWalked, RuleWalked}
use Rattle.check_walk.proofs.Walks.{goes_rule, goes_then, goes_stop, comes_inside}

-- ---- what has been passed over

module _ {k : Kernel} where
  pub further_none : {at : Place} {l : Ledger} → Stood k.counts at l → Further k at at l
  further_none s = record { stood = s; further_on = omega arith; reads_on = λ opens h. h }

  pub further_then : {from at after : Place} {l m : Ledger} → Further k from at l → Further k at after m → Further k from after m
  further_then f g = record { stood = g.stood; further_on = omega (arith, f.further_on, g.further_on); reads_on = λ opens h. g.reads_on opens (f.reads_on opens h) }

  further_rule : {at to : Place} {l : Ledger} → Onward k.counts at to l → ((opens : List Open) → ReadsOn k opens at → ReadsOn k opens to) → Further k at to l × (at.rule < to.rule)
  further_rule o f = (record { stood = o.stood; further_on = omega (arith, o.further_on); reads_on = f }, o.further_on)

  pub further_opens : {from at : Place} {l : Ledger} {ls : Loops} → Further k from at l → Opens k from ls → Opens k at ls
  further_opens f o = record { opens = o.opens; reads_on = f.reads_on o.opens o.reads_on; level = o.level }

  -- one loop more, or a branch
  module _ {at inside : Place} {ls : Loops} (o : Opens k at ls) where
    pub opens_for : {ls' : Loops} → Enters k o.opens at inside → ls'.count ≡ ls.count + 1 → Opens k inside ls'
    unfolding open_loops
    opens_for i e = record { opens = open_for (loop_there k at).passes ∷ o.opens; reads_on = i.reads_inside; level = omega (arith, o.level, e) }

    pub opens_if : ReadsOn k (open_if ∷ o.opens) inside → Opens k inside ls
    unfolding open_loops
    opens_if i = record { opens = open_if ∷ o.opens; reads_on = i; level = o.level }

    pub opens_else : ReadsOn k (open_else ∷ o.opens) inside → Opens k inside ls
    unfolding open_loops
    opens_else i = record { opens = open_else ∷ o.opens; reads_on = i; level = o.level }

  -- a block inside has been walked to where a rule closes it
  pub closes_inside : {from to : Place} {m : Ledger} → Further k from to m × Rests k true to → AtRule k.counts to m × Closing k to
  closes_inside {to} (further, rests) =
      let (before, code) = comes_inside k to rests in
      (record { stood = further.stood; there = before }, code)

  -- a rule or a block's end after what has been passed over
  module _ {from at : Place} (l : Ledger) {m : Ledger} (f : Further k from at m) {around : List F.Loop} (g : (os : List Opened) → S.loops os ≡ around → Goes k os from l os (standing at m)) where
    pub rule_then : {r : Taken} → RuleWalked k around at m r → RuleWalked k around from l r
    rule_then {r} w =
        ((λ os q. goes_then k os os os from l (standing at m) r (g os q) refl (w.0 os q)), λ to p. let v = w.1 to p in (further_then f v.0, omega (arith, f.further_on, v.1)))

    pub block_then : (inside : Bool) {r : Reached} → Stops k inside at m r → BlockWalked k around inside from l (with_ledger r m)
    block_then inside {r} s =
        ((λ os q o. goes_then k os os os from l (standing at m) (with_ledger r m) (g os q) refl (s.0 os o)), λ to p. let v = s.1 to p in (subst (λ to. Further k from to m) (sym v.0) f, v.1))

-- ---- stretches from a rule on

-- a for that was entered: `EnteredFor` without `stated`
pub record ForTaken (k : Kernel) (at : Place) (l : Ledger) (around : List F.Loop) (e : Taken) : Type 0 where
  pub as_defined : (os : List Opened) → S.loops os ≡ around → TakesRule k os at l (S.in_for (loop_there k at) (ledger k.counts.a k.counts.b e.ledger) ∷ os) e
  pub onward : (to : Place) → e.came ≡ Ok to → Onward k.counts at to e.ledger
  pub enters : (to : Place) → e.came ≡ Ok to → (opens : List Open) → ReadsOn k opens at → Enters k opens at to

pub for_taken : {k : Kernel} {at : Place} {l : Ledger} {around : List F.Loop} {e : Taken} → EnteredFor k at l around e → ForTaken k at l around e
for_taken E = record { as_defined = E.as_defined; onward = E.onward; enters = E.enters }

module _ (k : Kernel) {at : Place} {l : Ledger} (there : AtRule k.counts at l) (ls : Loops) where
  -- the walk comes to e with one block more open
  abbrev pub Opening : Opened → Taken → Type 0
  Opening o e = (os : List Opened) → S.loops os ≡ loops ls → Goes k os at l (o ∷ os) e

  -- refused there, whatever the ledger is then
  pub stops_inside : (e r : Taken) (o : Opened) {x : Refused} → Opening o e → e.came ≡ Err x → r.came ≡ Err x → RuleWalked k (loops ls) at l r
  stops_inside e r o g z y = ((λ os h. goes_stop k os (o ∷ os) os at l e r (g os h) z y), λ to q. refuses y q)

  -- on to v, where another block may be open in its place
  goes_inside : (e v : Taken) (o o' : Opened) {to : Place} → Opening o e → e.came ≡ Ok to → ((os : List Opened) → S.loops os ≡ loops ls → Goes k (o ∷ os) to e.ledger (o' ∷ os) v) → Opening o' v
  goes_inside e v o o' g z h os q = goes_then k os (o ∷ os) (o' ∷ os) at l e v (g os q) z (h os q)

  -- out of it
  goes_left : (v r : Taken) (o : Opened) {to : Place} → Opening o v → v.came ≡ Ok to → to.rule < k.counts.d → ((os : List Opened) → S.loops os ≡ loops ls → TakesRule k (o ∷ os) to v.ledger os r)
      → (os : List Opened) → S.loops os ≡ loops ls → Goes k os at l os r
  goes_left v r o {to} g z m t os q = goes_then k os (o ∷ os) os at l v r (g os q) z (goes_rule k (o ∷ os) os to v.ledger r m (t os q))

  -- ---- a for

  module _ {e : Taken} (E : ForTaken k at l (loops ls) e) where
    abbrev rows : Opened
    rows = S.in_for (loop_there k at) (ledger k.counts.a k.counts.b e.ledger)

    pub for_entered : Opening rows e
    for_entered os q = goes_rule k os (rows ∷ os) at l e there.there (E.as_defined os q)

    module _ (ls' : Loops) (own : Loop) (same : loop own ≡ loop_there k at) (deep : loops ls' ≡ loops ls ++ loop own ∷ []) {body : Place} (z : e.came ≡ Ok body) (v : Taken) (b : BlockWalked k (loops ls') true body e.ledger v) where
      for_around : (os : List Opened) → S.loops os ≡ loops ls → S.loops (rows ∷ os) ≡ loops ls'
      unfolding S.loops
      for_around os q = (λ i. q i ++ sym same i ∷ []) ∙ sym deep

      pub for_body : Opening rows v
      unfolding no_block
      for_body = goes_inside e v rows rows for_entered z (λ os q. b.0 (rows ∷ os) (for_around os q) refl)

      pub for_left : {end : Place} {r : Taken} → v.came ≡ Ok end → LeftFor k end v.ledger e.ledger (loop own) (loops ls') r → RuleWalked k (loops ls) at l r
      for_left {end} {r} y L =
          let walked = b.1 end y in
          let f = walked.0 in (
            goes_left v r rows for_body y (closes_inside walked).0.there
                (λ os q. subst (λ L. TakesRule k (S.in_for L (ledger k.counts.a k.counts.b e.ledger) ∷ os) end v.ledger os r) same (L.as_defined os (ap (λ ls. ls ++ loop own ∷ []) q ∙ sym deep))),
            (λ to x. further_rule (record { stood = (L.onward to x).stood; further_on = omega (arith, (E.onward body z).further_on, f.further_on, (L.onward to x).further_on) })
                (λ opens h. L.reads_on to x (loop_there k at).passes opens (f.reads_on (open_for (loop_there k at).passes ∷ opens) (E.enters body z opens h).reads_inside))),
          )

  -- ---- an if

  module _ {e : Taken} (E : EnteredIf k at l e) where
    abbrev first : Opened
    first = S.in_if (ledger k.counts.a k.counts.b l)

    pub if_entered : Opening first e
    if_entered os q = goes_rule k os (first ∷ os) at l e there.there (E.as_defined os)

    module _ {branch : Place} (z : e.came ≡ Ok branch) (v : Taken) (b : BlockWalked k (loops ls) true branch e.ledger v) where
      abbrev second : Opened
      second = S.in_else (ledger k.counts.a k.counts.b v.ledger)

      pub if_first : Opening first v
      unfolding no_block S.loops
      if_first = goes_inside e v first first if_entered z (λ os q. b.0 (first ∷ os) q refl)

      module _ {middle : Place} (y : v.came ≡ Ok middle) {t : Taken} (T : Turned k middle v.ledger l t) where
        pub if_turned : Opening second t
        if_turned = goes_inside v t first second if_first y (λ os q. goes_rule k (first ∷ os) (second ∷ os) middle v.ledger t (closes_inside (b.1 middle y)).0.there (T.as_defined os))

        module _ {other : Place} (x : t.came ≡ Ok other) (u : Taken) (d : BlockWalked k (loops ls) true other t.ledger u) where
          pub if_second : Opening second u
          unfolding no_block S.loops
          if_second = goes_inside t u second second if_turned x (λ os q. d.0 (second ∷ os) q refl)

          pub if_left : {last : Place} {r : Taken} → u.came ≡ Ok last → LeftIf k last u.ledger v.ledger (loops ls) r → RuleWalked k (loops ls) at l r
          if_left {last} {r} n L =
              let f = (b.1 middle y).0 in
              let walked = d.1 last n in
              let g = walked.0 in (
                goes_left u r second if_second n (closes_inside walked).0.there L.as_defined,
                (λ to m. further_rule (record { stood = (L.onward to m).stood; further_on = omega (arith, (E.onward branch z).further_on, f.further_on, (T.onward other x).further_on, g.further_on, (L.onward to m).further_on) })
                    (λ opens h. L.reads_on to m opens (g.reads_on (open_else ∷ opens) (T.reads_on other x opens (f.reads_on (open_if ∷ opens) (E.reads_on branch z opens h)))))),
              )

  -- ---- any other rule

  pub plain_walked : {r : Taken} → TakenPlain k at l (loops ls) r → RuleWalked k (loops ls) at l r
  plain_walked {r} T = ((λ os q. goes_rule k os os at l r there.there (T.as_defined os q)), λ to z. further_rule (T.onward to z) (T.reads_on to z))
