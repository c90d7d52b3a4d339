-- The next statements where a plain rule fits them: the arrays, registers and buffers that they name are there, since the file reads.
use Prim.Native.Nat.{ℕ, ◌≤◌, ◌<◌}
use mathlib.Core.Path.{◌≡◌, sym, subst}
use mathlib.Core.Bool.{true, false≢true}
use mathlib.Core.List.{List, [], ◌∷◌}
use native.Mathlib.Omega.{arith}
use borrow.Author.Rules.{rules}
use lib.Dec.{eqb}
use lib.ListN.{length, get_or}
use borrow.Author.Tests.{eqb-true}
use Rattle.numbers.proofs.Tests.{and_left, and_right, each_of}
use Rattle.kernel.specs.File.{Rec, nothing, copies, loads, stores, reads, writes, Statement, statement}
use Rattle.kernel.specs.Reading.{Scope, array_scope, stream_scope}
use Rattle.kernel.specs.Derivation as Derivation
use Rattle.kernel.specs.Derivation.{same_rule, read_rule, fill_rule, use_rule, move_rule, write_rule, for_rule, if_rule, else_rule, end_rule, no_rule}
use Rattle.kernel.specs.Check.{codes, same_p, same_pq, is_buffer, fits}
use Rattle.kernel.specs.Guarantees.{StatementFits, Nested}
use Rattle.kernel.proofs.Fitting.{codes_say, buffer_says}
use Rattle.kernel.proofs.Sayings.{says_copy, says_load, says_store, says_read, fits_at, there_at}
use Rattle.kernel.specs.Named.{rule}
use Rattle.kernel.specs.declared.codes.Rule.{Rule}
use Rattle.parts.specs.declared.Kernel.{Kernel}
use Rattle.parts.specs.Records.{rec}
use Rattle.parts.proofs.Parts as Parts
use Rattle.parts.proofs.Parts.{arrays_count, registers_are, buffers_are}
use Rattle.check_rules.specs.declared.Pair.{Pair}
use Rattle.check_rules.specs.View.{Named}
use Rattle.check_rules.proofs.Effects.{PlainRule}
use Rattle.check_take.specs.declared.Place.{Place}
use Rattle.check_take.specs.View.{held_by, array_there, stream_there, Next, Plain}

-- ---- a statement of a program that reads, by its code

module _ (c : Scope) (rs : List Rec) (reads_whole : Nested c [] rs) (i : ℕ) where
  abbrev r : Rec
  r = get_or rs i nothing

  said_fits : {s : Statement} → 1 ≤ r.code → statement r ≡ s → StatementFits c s
  said_fits h e = subst (StatementFits c) e (fits_at reads_whole i (there_at rs i h))

  copy_names : r.code ≡ copies → (r.p < c.registers) × (r.q < c.registers)
  copy_names e = said_fits (omega (arith, e)) (says_copy r e)

  load_names : r.code ≡ loads → r.q < length c.arrays
  load_names e = (said_fits (omega (arith, e)) (says_load r e)).1.there

  store_names : r.code ≡ stores → r.q < length c.arrays
  store_names e = (said_fits (omega (arith, e)) (says_store r e)).1.there

  read_names : r.code ≡ reads → (r.p < c.registers) × (r.q < length c.arrays)
  read_names e =
      let f = said_fits (omega (arith, e)) (says_read r e) in
      (f.0, f.1.there)

-- ---- plain rules

pub level_at : (r : Rule) → Plain r → PlainRule (rule r)
unfolding rule
level_at r h = search rules

-- ---- what a rule that fits says of the statements: the arrays and buffers that they name are there

module _ (k : Kernel) (at : Place) (d : Derivation.Place) where
  abbrev a : Rec
  a = array_there k at

  abbrev s : Rec
  s = stream_there k at

  load_there : a.code ≡ loads → a.q < k.counts.a
  load_there h = omega (arith, load_names (array_scope (held_by k)) (held_by k).array_program (Parts.reads k.file.now k.counts k.reads).array_program at.array h, arrays_count k.file.now k.counts)

  store_there : a.code ≡ stores → a.q < k.counts.a
  store_there h = omega (arith, store_names (array_scope (held_by k)) (held_by k).array_program (Parts.reads k.file.now k.counts k.reads).array_program at.array h, arrays_count k.file.now k.counts)

  named : (r : Derivation.Rule) → PlainRule r → fits (held_by k) d r a s ≡ true → Named k.counts r a s
  unfolding fits
  named same_rule l h = tt
  named read_rule l h = load_there (codes_say loads reads a s (and_left (codes loads reads a s) (same_pq a s) h)).0
  named fill_rule l h =
      let (p, q) = read_names (stream_scope (held_by k)) (held_by k).stream_program (Parts.reads k.file.now k.counts k.reads).stream_program at.stream (eqb-true s.code reads (and_left (eqb s.code reads) (is_buffer (held_by k) s.p) h)) in
      let low = buffer_says (held_by k) s.p (and_right (eqb s.code reads) (is_buffer (held_by k) s.p) h) in
      (omega (arith, q, arrays_count k.file.now k.counts), omega (arith, low, registers_are k.file.now k.counts), omega (arith, p, registers_are k.file.now k.counts, buffers_are k.file.now k.counts))
  named use_rule l h =
      let t = each_of (codes loads copies a s) (same_p a s ∷ is_buffer (held_by k) s.q ∷ []) h in
      let q = (copy_names (stream_scope (held_by k)) (held_by k).stream_program (Parts.reads k.file.now k.counts k.reads).stream_program at.stream (codes_say loads copies a s (t 0)).1).1 in
      let low = buffer_says (held_by k) s.q (t 2) in
      (omega (arith, low, registers_are k.file.now k.counts), omega (arith, q, registers_are k.file.now k.counts, buffers_are k.file.now k.counts))
  named move_rule l h =
      let t = each_of (eqb s.code copies) (is_buffer (held_by k) s.p ∷ is_buffer (held_by k) s.q ∷ []) h in
      let (p, q) = copy_names (stream_scope (held_by k)) (held_by k).stream_program (Parts.reads k.file.now k.counts k.reads).stream_program at.stream (eqb-true s.code copies (t 0)) in
      let low = buffer_says (held_by k) s.p (t 1) in
      let from = buffer_says (held_by k) s.q (t 2) in
      (omega (arith, low, registers_are k.file.now k.counts), omega (arith, p, registers_are k.file.now k.counts, buffers_are k.file.now k.counts), omega (arith, from, registers_are k.file.now k.counts), omega (arith, q, registers_are k.file.now k.counts, buffers_are k.file.now k.counts))
  named write_rule l h = store_there (codes_say stores writes a s (and_left (codes stores writes a s) (same_pq a s) h)).0
  named for_rule l h = absurd l
  named if_rule l h = absurd l
  named else_rule l h = absurd l
  named end_rule l h = absurd l
  named no_rule l h = absurd (false≢true h)

  -- the same of the code's records
  pub named_next : (r : Derivation.Rule) → PlainRule r → fits (held_by k) d r a s ≡ true → (p : Pair) → Next k at p → Named k.counts r (rec p.array) (rec p.stream)
  named_next r l h p n = subst (λ x. Named k.counts r x (rec p.stream)) (sym n.array_is) (subst (Named k.counts r a) (sym n.stream_is) (named r l h))
