-- The check: it walks the derivation over both programs, rule by rule, and names the first that does not follow.
use Rattle.std.specs.Prelude.{ℕ, zero, suc, ◌-◌, Bool, true, false, ◌&&◌, List, [], ◌∷◌, length, drop, eqb, leb, pos}
use Rattle.std.proofs.Math.Option.{Option, none, some}
use Rattle.numbers.specs.Result.{Result, ok, stop, ◌>>=◌, need, because}
use Rattle.numbers.specs.Lists.{alike}
use Rattle.numbers.specs.Words.{between}
use Rattle.forms.specs.Form.{constant, around, put_at, moved_by, same, limit, below}
use Rattle.kernel.specs.Numbers.{does_not_fit, past_count, not_next_index, not_held, untrue_at_entry, not_kept, branches_differ, statements_left, block_open, not_counted}
use Rattle.kernel.specs.File.{Rec, numbers, form, Kernel, count_of, array, sets, copies, works, loads, stores, reads, writes, fors, ifs, elses, ends, loop_of, position_row, buffer_row}
use Rattle.kernel.specs.Ledger.{Held, held, Ledger, position, holding, next_index, read_step, write_step, fill_step, move_step, each, holds_just, same_positions, rows_true, merged}
use Rattle.kernel.specs.Derivation.{Opened, in_for, in_if, in_else, Place, beginning, loops, next_rule, next_array, next_stream, past_both, past_stream, past_rows, hold_rows, stated, Rule, same_rule, read_rule, fill_rule, use_rule, move_rule, write_rule, for_rule, if_rule, else_rule, end_rule, no_rule, rule, buffer}

-- ---- what a rule asks of the next statements a and s

unfoldable pub codes : (c d : ℕ) → Rec → Rec → Bool
codes c d a s = eqb a.code c && eqb s.code d

unfoldable pub same_p : Rec → Rec → Bool
same_p a s = eqb a.p s.p

unfoldable pub same_pq : Rec → Rec → Bool
same_pq a s = same_p a s && eqb a.q s.q

unfoldable pub same_pqk : Rec → Rec → Bool
same_pqk a s = same_pq a s && eqb a.k s.k

unfoldable pub identical : Rec → Rec → Bool
identical a s = alike eqb (numbers a) (numbers s)

-- "R and up are the buffers"
unfoldable pub is_buffer : Kernel → ℕ → Bool
is_buffer K p = leb K.registers p

unfoldable pub something : Option Held → Bool
something none = false
something (some h) = true

-- "position below count"
unfoldable pub below_count : Kernel → Place → (q : ℕ) → Bool
below_count K c q = below (loops c.opened) (count_of (array K q)) (position q c.ledger)

-- ---- hold rows

-- "each group by p from 0 up": n rows of a code, the first with p = m, that name only the first `level` counters
unfoldable pub in_order : (code level m n : ℕ) → List Rec → Bool
in_order code level m zero rs = true
in_order code level m (suc n) [] = false
in_order code level m (suc n) (r ∷ rs) =
    eqb r.code code && eqb r.p m && around level (form r) && in_order code level (suc m) n rs

unfoldable pub rows_fit : Kernel → (level : ℕ) → List Rec → Bool
rows_fit K level rs =
    in_order position_row level 0 (length K.arrays) rs && in_order buffer_row level 0 K.buffers (drop (length K.arrays) rs)

-- ---- the rules

-- columns "Array side" and "Stream side": whether rule r fits the next statements a and s, and a for its hold rows
unfoldable pub fits : Kernel → Place → Rule → (a s : Rec) → Bool
fits K c same_rule a s = between sets works a.code && identical a s
fits K c read_rule a s = codes loads reads a s && same_pq a s
fits K c fill_rule a s = eqb s.code reads && is_buffer K s.p
fits K c use_rule a s = codes loads copies a s && same_p a s && is_buffer K s.q
fits K c move_rule a s = eqb s.code copies && is_buffer K s.p && is_buffer K s.q
fits K c write_rule a s = codes stores writes a s && same_pq a s
fits K c for_rule a s = codes fors fors a s && same_pqk a s && rows_fit K (suc (length (loops c.opened))) (hold_rows K c)
fits K c if_rule a s = codes ifs ifs a s && same_p a s
fits K c else_rule a s = codes elses elses a s
fits K c end_rule a s = codes ends ends a s
fits K c no_rule a s = false

-- rule 9 by the innermost block: "else starts again from the ledger here"
unfoldable pub at_else : List Opened → Place → Result ℕ Place
at_else [] c = stop does_not_fit
at_else (in_for l rows ∷ os) c = stop does_not_fit
at_else (in_if start ∷ os) c = ok (past_both (in_else c.ledger ∷ os) start c)
at_else (in_else first ∷ os) c = stop does_not_fit

-- rule 10 by the innermost block: "loop: hold rows kept (15); if: positions of both branches equal (16)"
unfoldable pub at_end : List Opened → Place → Result ℕ Place
at_end [] c = stop does_not_fit
at_end (in_for l rows ∷ os) c = do
  let level = length (loops os)
  _ ← need not_kept (rows_true (loops c.opened) (each (moved_by level l.step) rows) c.ledger)
  ok (past_both os (each (put_at level (limit l)) rows) c)
at_end (in_if start ∷ os) c = stop does_not_fit
at_end (in_else first ∷ os) c = do
  _ ← need branches_differ (same_positions (loops c.opened) first c.ledger)
  ok (past_both os (merged (loops c.opened) first c.ledger) c)

-- column "Condition and effect": where the derivation stands after a rule that fits, or the refusal
unfoldable pub effect : Kernel → Place → Rule → (a s : Rec) → Result ℕ Place
effect K c same_rule a s = ok (past_both c.opened c.ledger c)
effect K c read_rule a s = do
  _ ← need past_count (below_count K c a.q)
  _ ← need not_next_index (same (loops c.opened) (form a) (next_index K a.q c.ledger))
  ok (past_both c.opened (read_step a.q c.ledger) c)
effect K c fill_rule a s = do
  _ ← need past_count (below_count K c s.q)
  ok (past_stream c.opened (fill_step K (buffer K s.p) s.q c.ledger) c)
effect K c use_rule a s = do
  _ ← need not_held (holds_just (loops c.opened) (held a.q (form a)) (holding (buffer K s.q) c.ledger))
  ok (past_both c.opened c.ledger c)
effect K c move_rule a s = do
  _ ← need not_held (something (holding (buffer K s.q) c.ledger))
  ok (past_stream c.opened (move_step (buffer K s.p) (buffer K s.q) c.ledger) c)
effect K c write_rule a s = do
  _ ← need past_count (below_count K c a.q)
  _ ← need not_next_index (same (loops c.opened) (form a) (next_index K a.q c.ledger))
  ok (past_both c.opened (write_step a.q c.ledger) c)
effect K c for_rule a s = do
  let l = loop_of a
  let rows = stated K (hold_rows K c)
  _ ← need untrue_at_entry (rows_true (loops c.opened) (each (put_at (length (loops c.opened)) l.first) rows) c.ledger)
  ok (past_rows K (in_for l rows ∷ c.opened) rows c)
effect K c if_rule a s = ok (past_both (in_if c.ledger ∷ c.opened) c.ledger c)
effect K c else_rule a s = at_else c.opened c
effect K c end_rule a s = at_end c.opened c
effect K c no_rule a s = stop does_not_fit

unfoldable pub follow : Kernel → Place → Rule → (a s : Rec) → Result ℕ Place
follow K c r a s = do
  _ ← need does_not_fit (fits K c r a s)
  effect K c r a s

-- ---- the walk

-- a refusal: its number, and the place given, the next records of derivation, array program and stream program
pub record Refusal : Type 0 where
  pub number : ℕ
  pub rule : ℕ
  pub array : ℕ
  pub stream : ℕ

abbrev pub refused_at : Place → (number : ℕ) → Refusal
refused_at c number = record { number = number; rule = c.rule; array = c.array; stream = c.stream }

unfoldable pub at : {A : Type 0} → Place → Result ℕ A → Result Refusal A
at c r = because (refused_at c) r

-- one rule
unfoldable pub take_rule : Kernel → Place → Result Refusal Place
take_rule K c = at c (follow K c (rule (next_rule K c).code) (next_array K c) (next_stream K c))

unfoldable pub no_block : List Opened → Bool
no_block [] = true
no_block (o ∷ os) = false

-- "some stream's position isn't its count"
unfoldable pub all_counted : Kernel → Ledger → Bool
all_counted K L = alike (λ a f. same [] (constant (pos (count_of a))) f) K.arrays L.positions

-- the derivation is over: 17, 18, 19
unfoldable pub finish : Kernel → Place → Result Refusal (Unit {0})
finish K c = at c (do
  _ ← need statements_left (leb (length K.array_program) c.array && leb (length K.stream_program) c.stream)
  _ ← need block_open (no_block c.opened)
  need not_counted (all_counted K c.ledger))

-- from place c on, at most n rules
unfoldable pub walk : Kernel → (n : ℕ) → Place → Result Refusal (Unit {0})
walk K zero c = finish K c
walk K (suc n) c =
    elim (leb (length K.derivation) c.rule) [
      | true ↦ finish K c
      | false ↦ take_rule K c >>= walk K n
    ]

-- from place c on, as many as are left
unfoldable pub walk_on : Kernel → Place → Result Refusal (Unit {0})
walk_on K c = walk K (length K.derivation - c.rule) c

unfoldable pub check_kernel : Kernel → Result Refusal (Unit {0})
check_kernel K = walk K (length K.derivation) (beginning K)
