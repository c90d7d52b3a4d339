-- After a rule: where the derivation stands, and that the array program reads on, statement by statement.
use Prim.Native.Nat.{ℕ, suc, ◌+◌, ◌≤◌, ◌<◌}
use mathlib.Core.Path.{◌≡◌, sym, subst}
use mathlib.Core.Bool.{true, false≢true}
use mathlib.Core.List.{List, [], ◌∷◌}
use native.Mathlib.Omega.{arith}
use borrow.Author.Rules.{rules}
use lib.ListN.{get_or, drop}
use Rattle.numbers.specs.Words.{between}
use Rattle.numbers.proofs.Tests.{and_left, each_of, between_range}
use Rattle.kernel.specs.File.{Rec, nothing, sets, copies, works, loads, stores, reads, writes, ifs, elses, ends}
use Rattle.kernel.specs.Reading.{Scope, array_scope, Open, open_for, open_if, open_else}
use Rattle.kernel.specs.Derivation as Derivation
use Rattle.kernel.specs.Derivation.{Rule, same_rule, read_rule, fill_rule, use_rule, move_rule, write_rule, for_rule, if_rule, else_rule, end_rule, no_rule}
use Rattle.kernel.specs.Check as Check
use Rattle.kernel.specs.Guarantees.{Nested}
use Rattle.kernel.proofs.Fitting.{codes_say}
use Rattle.kernel.proofs.Fronts.{read_plain, read_if, read_else, read_end_for, read_end_if, plain_said}
use Rattle.kernel.proofs.Sayings.{says_if, says_else, says_end, there_at}
use Rattle.kernel.specs.Named.{rule}
use Rattle.kernel.specs.declared.codes.Rule.TheVariants.{If, Else, End}
use Rattle.parts.specs.declared.Counts.{Counts}
use Rattle.parts.specs.declared.Kernel.{Kernel}
use Rattle.check_ledger.specs.declared.Ledger.{Ledger}
use Rattle.check_ledger.specs.View.{Bounded}
use Rattle.check_ledger.proofs.Bounds.{bounded_wider}
use Rattle.check_rules.specs.View.{arrays_taken}
use Rattle.check_rules.proofs.Effects.{PlainRule}
use Rattle.check_take.specs.declared.Place.{Place}
use Rattle.check_take.specs.View.{held_by, further, AtRule, Onward, ReadsOn, array_there, stream_there}
use Rattle.check_take.proofs.Comes.{Fitting}

-- ---- where the derivation stands

module _ {c : Counts} {at : Place} {l : Ledger} (there : AtRule c at l) {m : Ledger} {to : Place} where
  pub onward : {arrays : ℕ} → arrays ≤ 1 → Bounded (at.rule + 1) m → to ≡ further at arrays → Onward c at to m
  onward few b e =
      let s = there.stood in
      subst (λ to. Onward c at to m) (sym e) (record {
        stood = record { rules = omega (arith, there.there); arrays = omega (arith, s.arrays); streams = omega (arith, s.streams); bounded = b };
        further_on = omega arith;
      })

  -- a statement of each program, and no position moved
  pub onward_one : Bounded at.rule m → to ≡ further at 1 → Onward c at to m
  onward_one b e = onward (omega arith) (bounded_wider b (omega arith)) e

pub one_at_most : (r : Rule) → arrays_taken r ≤ 1
unfolding arrays_taken
one_at_most r = search rules

-- ---- the program reads on

-- after the statement there, one place further
module _ (scope : Scope) (rs : List Rec) where
  pub one_further : {os : List Open} (i : ℕ) → Nested scope os (drop (suc i) rs) → Nested scope os (drop (i + 1) rs)
  one_further {os} i n =
      let e : suc i ≡ i + 1 = omega arith in
      subst (λ i. Nested scope os (drop i rs)) e n

  plain_reads : (os : List Open) (i : ℕ) → (1 ≤ (get_or rs i nothing).code) × ((get_or rs i nothing).code < 8) → Nested scope os (drop i rs) → Nested scope os (drop (i + 1) rs)
  plain_reads os i (low, high) n =
      let (o, e) = plain_said scope rs os i (there_at rs i low) n (λ z. omega (arith, z, high)) (λ z. omega (arith, z, high)) (omega (arith, high)) in
      one_further i (read_plain scope rs i n e).2

-- after a plain rule
module _ (k : Kernel) (at : Place) (opens : List Open) (n : ReadsOn k opens at) (d : Derivation.Place) where
  abbrev A : Rec
  A = array_there k at

  abbrev S : Rec
  S = stream_there k at

  abbrev After : ℕ → Type 0
  After arrays = Nested (array_scope (held_by k)) opens (drop (at.array + arrays) (held_by k).array_program)

  one_on : (1 ≤ A.code) × (A.code < 8) → After 1
  one_on h = plain_reads (array_scope (held_by k)) (held_by k).array_program opens at.array h n

  coded : (m n : ℕ) → (1 ≤ m) × (m < 8) → Check.codes m n A S ≡ true → After 1
  coded m n (low, high) h =
      let (is, _) = codes_say m n A S h in
      one_on (omega (arith, is, low), omega (arith, is, high))

  none_on : After 0
  none_on =
      let e : at.array ≡ at.array + 0 = omega arith in
      subst (λ i. Nested (array_scope (held_by k)) opens (drop i (held_by k).array_program)) e n

  pub rule_reads : (r : Rule) → PlainRule r → Check.fits (held_by k) d r A S ≡ true → After (arrays_taken r)
  unfolding arrays_taken Check.fits
  rule_reads same_rule l h =
      let (low, high) = between_range sets works A.code (and_left (between sets works A.code) (Check.identical A S) h) in
      one_on (low, omega (arith, high))
  rule_reads read_rule l h = coded loads reads (omega arith, omega arith) (and_left (Check.codes loads reads A S) (Check.same_pq A S) h)
  rule_reads fill_rule l h = none_on
  rule_reads use_rule l h = coded loads copies (omega arith, omega arith) (each_of (Check.codes loads copies A S) (Check.same_p A S ∷ Check.is_buffer (held_by k) S.q ∷ []) h 0)
  rule_reads move_rule l h = none_on
  rule_reads write_rule l h = coded stores writes (omega arith, omega arith) (and_left (Check.codes stores writes A S) (Check.same_pq A S) h)
  rule_reads for_rule l h = absurd l
  rule_reads if_rule l h = absurd l
  rule_reads else_rule l h = absurd l
  rule_reads end_rule l h = absurd l
  rule_reads no_rule l h = absurd (false≢true h)

-- after a rule that opens or closes a block: the code of its statement, where it fits
module _ (k : Kernel) (os : List Derivation.Opened) (at : Place) (l : Ledger) where
  abbrev a : Rec
  a = array_there k at

  abbrev s : Rec
  s = stream_there k at

  if_code : Fitting k os at l If ≡ true → a.code ≡ ifs
  unfolding Check.fits rule
  if_code h = (codes_say 9 9 a s (and_left _ (Check.same_p a s) h)).0

  else_code : Fitting k os at l Else ≡ true → a.code ≡ elses
  unfolding Check.fits rule
  else_code h = (codes_say 10 10 a s h).0

  end_code : Fitting k os at l End ≡ true → a.code ≡ ends
  unfolding Check.fits rule
  end_code h = (codes_say 11 11 a s h).0

  abbrev scope : Scope
  scope = array_scope (held_by k)

  abbrev rs : List Rec
  rs = (held_by k).array_program

  module _ {to : Place} (e : to ≡ further at 1) where
    after_it : (opens : List Open) → Nested scope opens (drop (suc at.array) rs) → ReadsOn k opens to
    after_it opens n = subst (ReadsOn k opens) (sym e) (one_further scope rs at.array n)

    pub if_reads : Fitting k os at l If ≡ true → (opens : List Open) → ReadsOn k opens at → ReadsOn k (open_if ∷ opens) to
    if_reads h opens n = after_it (open_if ∷ opens) (read_if scope rs at.array n (says_if a (if_code h))).2

    pub else_reads : Fitting k os at l Else ≡ true → (opens : List Open) → ReadsOn k (open_if ∷ opens) at → ReadsOn k (open_else ∷ opens) to
    else_reads h opens n = after_it (open_else ∷ opens) (read_else scope rs at.array n (says_else a (else_code h)))

    pub end_if_reads : Fitting k os at l End ≡ true → (opens : List Open) → ReadsOn k (open_else ∷ opens) at → ReadsOn k opens to
    end_if_reads h opens n = after_it opens (read_end_if scope rs at.array n (says_end a (end_code h)))

    pub end_for_reads : Fitting k os at l End ≡ true → (passes : ℕ) (opens : List Open) → ReadsOn k (open_for passes ∷ opens) at → ReadsOn k opens to
    end_for_reads h passes opens n = after_it opens (read_end_for scope rs at.array n (says_end a (end_code h)))
