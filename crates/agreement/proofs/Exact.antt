-- One rule, exactly: the check's tests answer as the rule's line of the table does, and the line's numbers rise.
use mathlib.Core.Path.{◌≡◌, refl, ap}
use mathlib.Core.Bool.{true, ◌&&◌}
use mathlib.Core.List.{List, [], ◌∷◌}
use Prim.Native.Nat.{ℕ}
use native.Mathlib.Omega.{arith}
use lib.ListN.{length}
use lib.Dec.{leb}
use borrow.Author.Tests.{leb-true, le-leb}
use Rattle.numbers.specs.Result.{Result, ◌>>=◌, need}
use Rattle.numbers.proofs.Tests.{and_left, and_right, and_true}
use Rattle.forms.specs.Form.{same, put_at, moved_by, Equal}
use Rattle.forms.proofs.Same.{same_equal, equal_same}
use Rattle.forms.proofs.Below.{Turning, below_says, says_below}
use Rattle.kernel.specs.Numbers.{statements_left, block_open, not_counted}
use Rattle.kernel.proofs.Walking.{none_open}
use Rattle.kernel.specs.File.{Rec, form, Kernel, count_of, array, loop_of}
use Rattle.kernel.specs.Ledger.{held, position, holding, next_index, each, holds_just, same_positions, rows_true}
use Rattle.kernel.specs.Derivation.{Opened, in_for, in_if, in_else, Place, loops, buffer, Rule, same_rule, read_rule, fill_rule, use_rule, move_rule, write_rule, for_rule, if_rule, else_rule, end_rule, no_rule}
use Rattle.kernel.specs.Check.{something, below_count, fits, at_else, at_end, effect, follow, no_block, all_counted}
use Rattle.kernel.specs.Rules.{loops_around, level, rows_here, BelowCount, AllTaken, goes_on, accepted, Takes, RefusesFirst, else_line, end_line, line, last_line}
use Rattle.agreement.proofs.Lines.{Rising, Answers, takes, refuses, tests, tests_last}
use Rattle.agreement.proofs.Tested.{just_says, says_just, something_says, says_something, positions_say, say_positions, rows_say, say_rows, fits_says, says_fits, all_counted_says, says_all_counted}

-- ---- numbers rise

module _ (K : Kernel) (c : Place) where
  else_rises : (os : List Opened) → Rising 10 (else_line os c)
  unfolding Rising else_line
  else_rises [] = omega arith
  else_rises (in_for l rows ∷ os) = omega arith
  else_rises (in_if start ∷ os) = tt
  else_rises (in_else first ∷ os) = omega arith

  end_rises : (os : List Opened) → Rising 10 (end_line os c)
  unfolding Rising end_line
  end_rises [] = omega arith
  end_rises (in_for l rows ∷ os) = (omega arith, tt)
  end_rises (in_if start ∷ os) = omega arith
  end_rises (in_else first ∷ os) = (omega arith, tt)

  pub line_rises : (r : Rule) (a s : Rec) → Rising 10 (line K c r a s)
  unfolding Rising line
  line_rises same_rule a s = (omega arith, tt)
  line_rises read_rule a s = (omega arith, (omega arith, (omega arith, tt)))
  line_rises fill_rule a s = (omega arith, (omega arith, tt))
  line_rises use_rule a s = (omega arith, (omega arith, tt))
  line_rises move_rule a s = (omega arith, (omega arith, tt))
  line_rises write_rule a s = (omega arith, (omega arith, (omega arith, tt)))
  line_rises for_rule a s = (omega arith, (omega arith, tt))
  line_rises if_rule a s = (omega arith, tt)
  line_rises else_rule a s = (omega arith, else_rises c.opened)
  line_rises end_rule a s = (omega arith, end_rises c.opened)
  line_rises no_rule a s = omega arith

  pub last_rises : Rising 10 (last_line K c)
  unfolding Rising last_line
  last_rises = (omega arith, (omega arith, (omega arith, tt)))

-- ---- the rule at a place whose loops all have a pass

module _ (K : Kernel) (c : Place) (turning : Turning (loops c.opened)) where
  below_is : (q : ℕ) → below_count K c q ≡ true → BelowCount K c q
  unfolding below_count
  below_is q h = below_says (loops c.opened) (count_of (array K q)) (position q c.ledger) h

  is_below : (q : ℕ) → BelowCount K c q → below_count K c q ≡ true
  unfolding below_count
  is_below q h = says_below (loops c.opened) (count_of (array K q)) (position q c.ledger) turning h

  else_answers : (os : List Opened) → Answers goes_on (else_line os c) (at_else os c)
  unfolding else_line at_else Takes RefusesFirst
  else_answers [] = refuses refl
  else_answers (in_for l rows ∷ os) = refuses refl
  else_answers (in_if start ∷ os) = takes refl
  else_answers (in_else first ∷ os) = refuses refl

  end_answers : (os : List Opened) → Answers goes_on (end_line os c) (at_end os c)
  unfolding end_line at_end Takes RefusesFirst
  end_answers [] = refuses refl
  end_answers (in_for l rows ∷ os) =
      let moved = each (moved_by (length (loops os)) l.step) rows in
      tests (rows_true (loops_around c) moved c.ledger) _ (rows_say (loops_around c) moved c.ledger) (say_rows (loops_around c) moved c.ledger) λ h. takes refl
  end_answers (in_if start ∷ os) = refuses refl
  end_answers (in_else first ∷ os) =
      tests (same_positions (loops_around c) first c.ledger) _ (positions_say (loops_around c) first c.ledger) (say_positions (loops_around c) first c.ledger) λ h. takes refl

  module _ (a s : Rec) where
    next_is : same (loops_around c) (form a) (next_index K a.q c.ledger) ≡ true → Equal (loops_around c) (form a) (next_index K a.q c.ledger)
    next_is h = same_equal (loops_around c) (form a) (next_index K a.q c.ledger) h

    -- what the check makes of rule r
    pub line_answers : (r : Rule) → Answers goes_on (line K c r a s) (follow K c r a s)
    unfolding line follow effect Takes RefusesFirst
    line_answers same_rule = tests (fits K c same_rule a s) _ (fits_says K c same_rule a s) (says_fits K c same_rule a s) λ f. takes refl
    line_answers read_rule =
        tests (fits K c read_rule a s) _ (fits_says K c read_rule a s) (says_fits K c read_rule a s) λ f.
        tests (below_count K c a.q) _ (below_is a.q) (is_below a.q) λ b.
        tests (same (loops_around c) (form a) (next_index K a.q c.ledger)) _ next_is equal_same λ e. takes refl
    line_answers fill_rule =
        tests (fits K c fill_rule a s) _ (fits_says K c fill_rule a s) (says_fits K c fill_rule a s) λ f.
        tests (below_count K c s.q) _ (below_is s.q) (is_below s.q) λ b. takes refl
    line_answers use_rule =
        tests (fits K c use_rule a s) _ (fits_says K c use_rule a s) (says_fits K c use_rule a s) λ f.
        tests (holds_just (loops_around c) (held a.q (form a)) (holding (buffer K s.q) c.ledger)) _ (just_says (held a.q (form a)) (holding (buffer K s.q) c.ledger))
        (says_just (held a.q (form a)) (holding (buffer K s.q) c.ledger)) λ h. takes refl
    line_answers move_rule =
        tests (fits K c move_rule a s) _ (fits_says K c move_rule a s) (says_fits K c move_rule a s) λ f.
        tests (something (holding (buffer K s.q) c.ledger)) _ (something_says (holding (buffer K s.q) c.ledger)) (says_something (holding (buffer K s.q) c.ledger)) λ h. takes refl
    line_answers write_rule =
        tests (fits K c write_rule a s) _ (fits_says K c write_rule a s) (says_fits K c write_rule a s) λ f.
        tests (below_count K c a.q) _ (below_is a.q) (is_below a.q) λ b.
        tests (same (loops_around c) (form a) (next_index K a.q c.ledger)) _ next_is equal_same λ e. takes refl
    line_answers for_rule =
        let entered = each (put_at (level c) (loop_of a).first) (rows_here K c) in
        tests (fits K c for_rule a s) _ (fits_says K c for_rule a s) (says_fits K c for_rule a s) λ f.
        tests (rows_true (loops_around c) entered c.ledger) _ (rows_say (loops_around c) entered c.ledger) (say_rows (loops_around c) entered c.ledger) λ h. takes refl
    line_answers if_rule = tests (fits K c if_rule a s) _ (fits_says K c if_rule a s) (says_fits K c if_rule a s) λ f. takes refl
    line_answers else_rule = tests (fits K c else_rule a s) _ (fits_says K c else_rule a s) (says_fits K c else_rule a s) λ f. else_answers c.opened
    line_answers end_rule = tests (fits K c end_rule a s) _ (fits_says K c end_rule a s) (says_fits K c end_rule a s) λ f. end_answers c.opened
    line_answers no_rule = stray
      where
        stray : Answers goes_on (line K c no_rule a s) (follow K c no_rule a s)
        stray = unfold fits need ◌>>=◌ in refuses refl

-- ---- the end of the derivation

module _ (K : Kernel) (c : Place) where
  -- the test at the end, without its place
  unfoldable pub last_test : Result ℕ (Unit {0})
  last_test = do
    _ ← need statements_left (leb (length K.array_program) c.array && leb (length K.stream_program) c.stream)
    _ ← need block_open (no_block c.opened)
    need not_counted (all_counted K c.ledger)

  taken_says : leb (length K.array_program) c.array && leb (length K.stream_program) c.stream ≡ true → AllTaken K c
  taken_says h = record {
    array_program = leb-true (length K.array_program) c.array (and_left (leb (length K.array_program) c.array) (leb (length K.stream_program) c.stream) h);
    stream_program = leb-true (length K.stream_program) c.stream (and_right (leb (length K.array_program) c.array) (leb (length K.stream_program) c.stream) h);
  }

  says_taken : AllTaken K c → leb (length K.array_program) c.array && leb (length K.stream_program) c.stream ≡ true
  says_taken t = and_true (le-leb (length K.array_program) c.array t.array_program) (le-leb (length K.stream_program) c.stream t.stream_program)

  says_no_block : (os : List Opened) → os ≡ [] → no_block os ≡ true
  unfolding no_block
  says_no_block os e = ap no_block e

  pub last_answers : Answers {A = Unit {0}} (λ t. accepted) (last_line K c) last_test
  unfolding last_line last_test
  last_answers =
      tests (leb (length K.array_program) c.array && leb (length K.stream_program) c.stream) _ taken_says says_taken λ t.
      tests (no_block c.opened) _ (none_open c.opened) (says_no_block c.opened) λ b.
      tests_last (all_counted K c.ledger) (all_counted_says K c) (says_all_counted K c)
