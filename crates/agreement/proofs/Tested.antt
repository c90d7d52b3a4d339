-- The check's tests say what the rules say: each test of a rule holds exactly where what the rule asks does.
use mathlib.Core.Path.{◌≡◌, refl, sym, ap, subst}
use mathlib.Core.Bool.{true, ◌&&◌, false≢true}
use mathlib.Core.List.{List, [], ◌∷◌}
use mathlib.Core.Option.{Option, none, some}
use Prim.Native.Nat.{ℕ, zero, suc, ◌≤◌}
use lib.Dec.{eqb}
use lib.ListN.{length, drop}
use lib.IntN.{pos}
use borrow.Author.Tests.{eqb-true, eq-eqb, le-leb}
use Rattle.numbers.specs.Lists.{alike}
use Rattle.numbers.specs.Words.{between}
use Rattle.numbers.proofs.Tests.{and_left, and_right, and_true, each_of, between_range, range_between, alike_eq, eq_alike, alike_pairwise, pairwise_alike}
use Rattle.forms.specs.Form.{constant, around, same, Loop, Equal}
use Rattle.forms.proofs.Same.{same_equal, equal_same, around_says, says_around}
use Rattle.kernel.specs.File.{Rec, numbers, form, Kernel, count_of, sets, copies, works, loads, stores, reads, writes, fors, ifs, elses, ends, position_row, buffer_row}
use Rattle.kernel.specs.Ledger.{Held, held, Ledger, holds_just, same_positions, row_true, rows_true}
use Rattle.kernel.specs.Derivation.{Place, loops, hold_rows, Rule, same_rule, read_rule, fill_rule, use_rule, move_rule, write_rule, for_rule, if_rule, else_rule, end_rule, no_rule}
use Rattle.kernel.specs.Check.{codes, same_p, same_pq, same_pqk, identical, is_buffer, something, in_order, rows_fit, fits, all_counted}
use Rattle.kernel.specs.Rules.{Rows, over, row, Holds, holds, PositionsEqual, RowTrue, says_nothing, says_so, RowsTrue, AllCounted, Line, ◌unless◌then◌, gives, never, line}
use Rattle.kernel.proofs.Fitting.{codes_say, buffer_says}

-- ---- held buffers

module _ {around : List Loop} where
  pub just_says : (h : Held) (g : Option Held) → holds_just around h g ≡ true → Holds around h g
  unfolding holds_just
  just_says (held q f) none h = absurd (false≢true h)
  just_says (held q f) (some (held q' f')) h =
      subst (λ q'. Holds around (held q f) (some (held q' f'))) (eqb-true q q' (and_left (eqb q q') (same around f f') h))
      (holds (same_equal around f f' (and_right (eqb q q') (same around f f') h)))

  pub says_just : (h : Held) (g : Option Held) → Holds around h g → holds_just around h g ≡ true
  unfolding holds_just
  says_just h g (holds {q} e) = and_true (eq-eqb q q refl) (equal_same e)

pub something_says : (g : Option Held) → something g ≡ true → (h : Held) × (g ≡ some h)
unfolding something
something_says none e = absurd (false≢true e)
something_says (some h) e = (h, refl)

pub says_something : (g : Option Held) → (h : Held) × (g ≡ some h) → something g ≡ true
unfolding something
says_something g (h, e) = ap something e

-- ---- rows that are true of a ledger

module _ (around : List Loop) where
  row_says : (r g : Option Held) → row_true around r g ≡ true → RowTrue around r g
  unfolding row_true
  row_says none g h = says_nothing
  row_says (some r) g h = says_so (just_says r g h)

  says_row : (r g : Option Held) → RowTrue around r g → row_true around r g ≡ true
  unfolding row_true
  says_row r g says_nothing = refl
  says_row r g (says_so {r = h} so) = says_just h g so

  pub positions_say : (L M : Ledger) → same_positions around L M ≡ true → PositionsEqual around L M
  unfolding same_positions
  positions_say L M h = alike_pairwise (same around) (Equal around) (same_equal around) L.positions M.positions h

  pub say_positions : (L M : Ledger) → PositionsEqual around L M → same_positions around L M ≡ true
  unfolding same_positions
  say_positions L M e = pairwise_alike (same around) (Equal around) (λ f g. equal_same) e

  pub rows_say : (rows L : Ledger) → rows_true around rows L ≡ true → RowsTrue around rows L
  unfolding rows_true
  rows_say rows L h = record {
    positions = positions_say rows L (and_left (same_positions around rows L) (alike (row_true around) rows.buffers L.buffers) h);
    buffers = alike_pairwise (row_true around) (RowTrue around) row_says rows.buffers L.buffers (and_right (same_positions around rows L) (alike (row_true around) rows.buffers L.buffers) h);
  }

  pub say_rows : (rows L : Ledger) → RowsTrue around rows L → rows_true around rows L ≡ true
  unfolding rows_true
  say_rows rows L r = and_true (say_positions rows L r.positions) (pairwise_alike (row_true around) (RowTrue around) says_row r.buffers)

-- ---- hold rows

order_says : (code level m n : ℕ) (rs : List Rec) → in_order code level m n rs ≡ true → Rows code level m n rs
unfolding in_order
order_says code level m zero rs h = over
order_says code level m (suc n) [] h = absurd (false≢true h)
order_says code level m (suc n) (r ∷ rs) h =
    let t = each_of (eqb r.code code) (eqb r.p m ∷ around level (form r) ∷ in_order code level (suc m) n rs ∷ []) h in
    row (eqb-true r.code code (t 0)) (eqb-true r.p m (t 1)) (around_says level (form r) (t 2)) (order_says code level (suc m) n rs (t 3))

says_order : (code level : ℕ) {m n : ℕ} {rs : List Rec} → Rows code level m n rs → in_order code level m n rs ≡ true
unfolding in_order
says_order code level over = refl
says_order code level (row {m} {n} {r} {rs} c p a more) =
    and_true (and_true (and_true (eq-eqb r.code code c) (eq-eqb r.p m p)) (says_around level (form r) a)) (says_order code level more)

-- ---- the next statements

numbers_eq : (a s : Rec) → numbers a ≡ numbers s → s ≡ a
unfolding numbers
numbers_eq a s e =
    let c : s.code ≡ a.code = cc in
    let p : s.p ≡ a.p = cc in
    let q : s.q ≡ a.q = cc in
    let k : s.k ≡ a.k = cc in
    let x : s.x ≡ a.x = cc in
    λ i. record { code = c i; p = p i; q = q i; k = k i; x = x i }

identical_says : (a s : Rec) → identical a s ≡ true → s ≡ a
unfolding identical
identical_says a s h = numbers_eq a s (alike_eq eqb eqb-true (numbers a) (numbers s) h)

says_identical : (a s : Rec) → s ≡ a → identical a s ≡ true
unfolding identical
says_identical a s e = eq_alike eqb (λ n. eq-eqb n n refl) (sym (ap numbers e))

say_codes : (c d : ℕ) (a s : Rec) → a.code ≡ c → s.code ≡ d → codes c d a s ≡ true
unfolding codes
say_codes c d a s e f = and_true (eq-eqb a.code c e) (eq-eqb s.code d f)

p_says : (a s : Rec) → same_p a s ≡ true → s.p ≡ a.p
unfolding same_p
p_says a s h = sym (eqb-true a.p s.p h)

says_p : (a s : Rec) → s.p ≡ a.p → same_p a s ≡ true
unfolding same_p
says_p a s e = eq-eqb a.p s.p (sym e)

pq_says : (a s : Rec) → same_pq a s ≡ true → (s.p ≡ a.p) × (s.q ≡ a.q)
unfolding same_pq
pq_says a s h = (p_says a s (and_left (same_p a s) (eqb a.q s.q) h), sym (eqb-true a.q s.q (and_right (same_p a s) (eqb a.q s.q) h)))

says_pq : (a s : Rec) → s.p ≡ a.p → s.q ≡ a.q → same_pq a s ≡ true
unfolding same_pq
says_pq a s e f = and_true (says_p a s e) (eq-eqb a.q s.q (sym f))

pqk_says : (a s : Rec) → same_pqk a s ≡ true → (s.p ≡ a.p) × (s.q ≡ a.q) × (s.k ≡ a.k)
unfolding same_pqk
pqk_says a s h =
    let (p, q) = pq_says a s (and_left (same_pq a s) (eqb a.k s.k) h) in
    (p, q, sym (eqb-true a.k s.k (and_right (same_pq a s) (eqb a.k s.k) h)))

says_pqk : (a s : Rec) → s.p ≡ a.p → s.q ≡ a.q → s.k ≡ a.k → same_pqk a s ≡ true
unfolding same_pqk
says_pqk a s e f g = and_true (says_pq a s e f) (eq-eqb a.k s.k (sym g))

says_buffer : (K : Kernel) (p : ℕ) → K.registers ≤ p → is_buffer K p ≡ true
unfolding is_buffer
says_buffer K p h = le-leb K.registers p h

-- ---- what a rule asks of them, first of all

abbrev pub FirstAsked : Line → Type 0
FirstAsked (n unless what then rest) = what
FirstAsked (gives d) = Unit
FirstAsked (never n) = ⊥

pub fits_says : (K : Kernel) (c : Place) (r : Rule) (a s : Rec) → fits K c r a s ≡ true → FirstAsked (line K c r a s)
unfolding fits rows_fit line
fits_says K c same_rule a s h =
    let (low, high) = between_range sets works a.code (and_left (between sets works a.code) (identical a s) h) in
    (low, high, identical_says a s (and_right (between sets works a.code) (identical a s) h))
fits_says K c read_rule a s h =
    let (x, y) = codes_say loads reads a s (and_left (codes loads reads a s) (same_pq a s) h) in
    let (p, q) = pq_says a s (and_right (codes loads reads a s) (same_pq a s) h) in
    (x, y, p, q)
fits_says K c fill_rule a s h =
    (eqb-true s.code reads (and_left (eqb s.code reads) (is_buffer K s.p) h), buffer_says K s.p (and_right (eqb s.code reads) (is_buffer K s.p) h))
fits_says K c use_rule a s h =
    let t = each_of (codes loads copies a s) (same_p a s ∷ is_buffer K s.q ∷ []) h in
    let (x, y) = codes_say loads copies a s (t 0) in
    (x, y, p_says a s (t 1), buffer_says K s.q (t 2))
fits_says K c move_rule a s h =
    let t = each_of (eqb s.code copies) (is_buffer K s.p ∷ is_buffer K s.q ∷ []) h in
    (eqb-true s.code copies (t 0), buffer_says K s.p (t 1), buffer_says K s.q (t 2))
fits_says K c write_rule a s h =
    let (x, y) = codes_say stores writes a s (and_left (codes stores writes a s) (same_pq a s) h) in
    let (p, q) = pq_says a s (and_right (codes stores writes a s) (same_pq a s) h) in
    (x, y, p, q)
fits_says K c for_rule a s h =
    let t = each_of (codes fors fors a s) (same_pqk a s ∷ (in_order position_row (suc (length (loops c.opened))) 0 (length K.arrays) (hold_rows K c) && in_order buffer_row (suc (length (loops c.opened))) 0 K.buffers (drop (length K.arrays) (hold_rows K c))) ∷ []) h in
    let u = each_of (in_order position_row (suc (length (loops c.opened))) 0 (length K.arrays) (hold_rows K c)) (in_order buffer_row (suc (length (loops c.opened))) 0 K.buffers (drop (length K.arrays) (hold_rows K c)) ∷ []) (t 2) in
    let (x, y) = codes_say fors fors a s (t 0) in
    let (p, q, k) = pqk_says a s (t 1) in (
      x,
      y,
      p,
      q,
      k,
      record {
        positions = order_says position_row (suc (length (loops c.opened))) 0 (length K.arrays) (hold_rows K c) (u 0);
        buffers = order_says buffer_row (suc (length (loops c.opened))) 0 K.buffers (drop (length K.arrays) (hold_rows K c)) (u 1);
      },
    )
fits_says K c if_rule a s h =
    let (x, y) = codes_say ifs ifs a s (and_left (codes ifs ifs a s) (same_p a s) h) in
    (x, y, p_says a s (and_right (codes ifs ifs a s) (same_p a s) h))
fits_says K c else_rule a s h = codes_say elses elses a s h
fits_says K c end_rule a s h = codes_say ends ends a s h
fits_says K c no_rule a s h = absurd (false≢true h)

pub says_fits : (K : Kernel) (c : Place) (r : Rule) (a s : Rec) → FirstAsked (line K c r a s) → fits K c r a s ≡ true
unfolding fits rows_fit line
says_fits K c same_rule a s (low, high, e) = and_true (range_between sets works a.code low high) (says_identical a s e)
says_fits K c read_rule a s (x, y, p, q) = and_true (say_codes loads reads a s x y) (says_pq a s p q)
says_fits K c fill_rule a s (x, p) = and_true (eq-eqb s.code reads x) (says_buffer K s.p p)
says_fits K c use_rule a s (x, y, p, q) = and_true (and_true (say_codes loads copies a s x y) (says_p a s p)) (says_buffer K s.q q)
says_fits K c move_rule a s (x, p, q) = and_true (and_true (eq-eqb s.code copies x) (says_buffer K s.p p)) (says_buffer K s.q q)
says_fits K c write_rule a s (x, y, p, q) = and_true (say_codes stores writes a s x y) (says_pq a s p q)
says_fits K c for_rule a s (x, y, p, q, k, r) =
    and_true (and_true (say_codes fors fors a s x y) (says_pqk a s p q k)) (and_true (says_order position_row (suc (length (loops c.opened))) r.positions) (says_order buffer_row (suc (length (loops c.opened))) r.buffers))
says_fits K c if_rule a s (x, y, p) = and_true (say_codes ifs ifs a s x y) (says_p a s p)
says_fits K c else_rule a s (x, y) = say_codes elses elses a s x y
says_fits K c end_rule a s (x, y) = say_codes ends ends a s x y
says_fits K c no_rule a s h = absurd h

-- ---- every stream's position is its count

pub all_counted_says : (K : Kernel) (c : Place) → all_counted K c.ledger ≡ true → AllCounted K c
unfolding all_counted
all_counted_says K c h =
    alike_pairwise (λ a f. same [] (constant (pos (count_of a))) f) (λ a f. Equal [] (constant (pos (count_of a))) f) (λ a f. same_equal [] (constant (pos (count_of a))) f) K.arrays c.ledger.positions h

pub says_all_counted : (K : Kernel) (c : Place) → AllCounted K c → all_counted K c.ledger ≡ true
unfolding all_counted
says_all_counted K c e = pairwise_alike (λ a f. same [] (constant (pos (count_of a))) f) (λ a f. Equal [] (constant (pos (count_of a))) f) (λ a f. equal_same) e
