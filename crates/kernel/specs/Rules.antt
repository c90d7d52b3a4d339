-- "The ledger and its rules": the table, a line for each rule, and the line of the derivation's end. What follows the rules, and which number
-- refuses what does not, are both read off these lines.
use Rattle.std.specs.Prelude.{ℕ, suc, ◌≤◌, ◌≡◌, true, false, ◌⊎◌, List, [], ◌∷◌, length, drop, leb, pos}
use Rattle.std.proofs.Math.Option.{Option, none, some}
use Rattle.numbers.specs.Lists.{Pairwise}
use Rattle.forms.specs.Form.{Form, constant, Around, put_at, moved_by, Loop, limit, Equal, Below}
use Rattle.kernel.specs.Numbers.{does_not_fit, past_count, not_next_index, not_held, untrue_at_entry, not_kept, branches_differ, statements_left, block_open, not_counted}
use Rattle.kernel.specs.File.{Rec, form, Kernel, count_of, array, sets, copies, works, loads, stores, reads, writes, fors, ifs, elses, ends, loop_of, position_row, buffer_row}
use Rattle.kernel.specs.Ledger.{Held, held, Ledger, position, holding, next_index, read_step, write_step, fill_step, move_step, each, merged}
use Rattle.kernel.specs.Derivation.{Opened, in_for, in_if, in_else, Place, beginning, loops, next_rule, next_array, next_stream, past_both, past_stream, past_rows, hold_rows, stated, buffer, Rule, same_rule, read_rule, fill_rule, use_rule, move_rule, write_rule, for_rule, if_rule, else_rule, end_rule, no_rule, rule}

-- ---- what the table says of forms, rows and ledgers

-- the loops around the next statements, and how many they are; around a for's end is also its own loop
abbrev pub loops_around : Place → List Loop
loops_around c = loops c.opened

abbrev pub level : Place → ℕ
level c = length (loops_around c)

-- the ledger that the hold rows after this rule state
abbrev pub rows_here : Kernel → Place → Ledger
rows_here K c = stated K (hold_rows K c)

-- "position below count"
abbrev pub BelowCount : Kernel → Place → (q : ℕ) → Type 0
BelowCount K c q = Below (loops_around c) (count_of (array K q)) (position q c.ledger)

-- "each group by p from 0 up": n rows of a code, the first with p = m, that name only the first `level` counters
pub data Rows (code level : ℕ) : (m n : ℕ) → List Rec → Type 0 where
  over : {m : ℕ} {rs : List Rec} → Rows code level m 0 rs
  row : {m n : ℕ} {r : Rec} {rs : List Rec} → r.code ≡ code → r.p ≡ m → Around level (form r) → Rows code level (suc m) n rs → Rows code level m (suc n) (r ∷ rs)

-- "A rows of code 11, then B rows of code 12"
pub record HoldRows (K : Kernel) (level : ℕ) (rs : List Rec) : Type 0 where
  pub positions : Rows position_row level 0 (length K.arrays) rs
  pub buffers : Rows buffer_row level 0 K.buffers (drop (length K.arrays) rs)

-- "buffer holds that array and index"
pub data Holds (around : List Loop) : Held → Option Held → Type 0 where
  holds : {q : ℕ} {f g : Form} → Equal around f g → Holds around (held q f) (some (held q g))

-- "positions of both branches equal", "each position row equals the ledger"
abbrev pub PositionsEqual : (around : List Loop) → Ledger → Ledger → Type 0
PositionsEqual around L M = Pairwise (Equal around) L.positions M.positions

-- "each buffer row is nothing or equals it"
pub data RowTrue (around : List Loop) : Option Held → Option Held → Type 0 where
  says_nothing : {h : Option Held} → RowTrue around none h
  says_so : {r : Held} {h : Option Held} → Holds around r h → RowTrue around (some r) h

-- "each position row equals the ledger and each buffer row is nothing or equals it"
pub record RowsTrue (around : List Loop) (rows L : Ledger) : Type 0 where
  pub positions : PositionsEqual around rows L
  pub buffers : Pairwise (RowTrue around) rows.buffers L.buffers

-- no statement is left
pub record AllTaken (K : Kernel) (c : Place) : Type 0 where
  pub array_program : length K.array_program ≤ c.array
  pub stream_program : length K.stream_program ≤ c.stream

-- every stream's position is its count; no loop is around
abbrev pub AllCounted : Kernel → Place → Type 0
AllCounted K c = Pairwise (λ a f. Equal [] (constant (pos (count_of a))) f) K.arrays c.ledger.positions

-- ---- lines of the table

-- what comes of a line where all that it asks holds: the derivation goes on from there, or it is accepted
pub data After : Type 0 where
  goes_on : Place → After
  accepted : After

-- a line: what is asked, in its order, each with the number that refuses where it does not hold; then what comes of it. `never` refuses whatever holds
infixr 5 ◌unless◌then◌
pub data Line : Type 1 where
  ◌unless◌then◌ : (number : ℕ) → (what : Type 0) → (rest : Line) → Line
  gives : After → Line
  never : (number : ℕ) → Line

-- the derivation goes on from place d
abbrev pub goes : (d : Place) → Line
goes d = gives (goes_on d)

-- all that is asked holds, and that comes of it
unfoldable pub Takes : Line → After → Type 0
Takes (n unless what then rest) e = what × Takes rest e
Takes (gives d) e = d ≡ e
Takes (never n) e = ⊥

-- the number refuses something that is asked and does not hold
unfoldable pub Refuses : Line → (number : ℕ) → Type 0
Refuses (n unless what then rest) number = ((what → ⊥) × (n ≡ number)) ⊎ Refuses rest number
Refuses (gives d) number = ⊥
Refuses (never n) number = n ≡ number

-- the number refuses the first that does not hold, in the order of the line
unfoldable pub RefusesFirst : Line → (number : ℕ) → Type 0
RefusesFirst (n unless what then rest) number = ((what → ⊥) × (n ≡ number)) ⊎ (what × RefusesFirst rest number)
RefusesFirst (gives d) number = ⊥
RefusesFirst (never n) number = n ≡ number

-- ---- the table

-- rule 9 by the innermost block: "else starts again from the ledger here"
unfoldable pub else_line : List Opened → Place → Line
else_line [] c = never does_not_fit
else_line (in_for l rows ∷ os) c = never does_not_fit
else_line (in_if start ∷ os) c = goes (past_both (in_else c.ledger ∷ os) start c)
else_line (in_else first ∷ os) c = never does_not_fit

-- rule 10 by the innermost block: "loop: hold rows kept (15); if: positions of both branches equal (16)"
unfoldable pub end_line : List Opened → Place → Line
end_line [] c = never does_not_fit
end_line (in_for l rows ∷ os) c =
    not_kept unless RowsTrue (loops_around c) (each (moved_by (length (loops os)) l.step) rows) c.ledger then
    goes (past_both os (each (put_at (length (loops os)) (limit l)) rows) c)
end_line (in_if start ∷ os) c = never does_not_fit
end_line (in_else first ∷ os) c =
    branches_differ unless PositionsEqual (loops_around c) first c.ledger then
    goes (past_both os (merged (loops_around c) first c.ledger) c)

-- columns "Array side", "Stream side" and "Condition and effect": rule r at place c, with the next statements a and s
unfoldable pub line : Kernel → Place → Rule → (a s : Rec) → Line
line K c same_rule a s =
    does_not_fit unless ((sets ≤ a.code) × (a.code ≤ works) × (s ≡ a)) then
    goes (past_both c.opened c.ledger c)
line K c read_rule a s =
    does_not_fit unless ((a.code ≡ loads) × (s.code ≡ reads) × (s.p ≡ a.p) × (s.q ≡ a.q)) then
    past_count unless BelowCount K c a.q then
    not_next_index unless Equal (loops_around c) (form a) (next_index K a.q c.ledger) then
    goes (past_both c.opened (read_step a.q c.ledger) c)
line K c fill_rule a s =
    does_not_fit unless ((s.code ≡ reads) × (K.registers ≤ s.p)) then
    past_count unless BelowCount K c s.q then
    goes (past_stream c.opened (fill_step K (buffer K s.p) s.q c.ledger) c)
line K c use_rule a s =
    does_not_fit unless ((a.code ≡ loads) × (s.code ≡ copies) × (s.p ≡ a.p) × (K.registers ≤ s.q)) then
    not_held unless Holds (loops_around c) (held a.q (form a)) (holding (buffer K s.q) c.ledger) then
    goes (past_both c.opened c.ledger c)
line K c move_rule a s =
    does_not_fit unless ((s.code ≡ copies) × (K.registers ≤ s.p) × (K.registers ≤ s.q)) then
    not_held unless ((h : Held) × (holding (buffer K s.q) c.ledger ≡ some h)) then
    goes (past_stream c.opened (move_step (buffer K s.p) (buffer K s.q) c.ledger) c)
line K c write_rule a s =
    does_not_fit unless ((a.code ≡ stores) × (s.code ≡ writes) × (s.p ≡ a.p) × (s.q ≡ a.q)) then
    past_count unless BelowCount K c a.q then
    not_next_index unless Equal (loops_around c) (form a) (next_index K a.q c.ledger) then
    goes (past_both c.opened (write_step a.q c.ledger) c)
line K c for_rule a s =
    does_not_fit unless ((a.code ≡ fors) × (s.code ≡ fors) × (s.p ≡ a.p) × (s.q ≡ a.q) × (s.k ≡ a.k) × HoldRows K (suc (level c)) (hold_rows K c)) then
    untrue_at_entry unless RowsTrue (loops_around c) (each (put_at (level c) (loop_of a).first) (rows_here K c)) c.ledger then
    goes (past_rows K (in_for (loop_of a) (rows_here K c) ∷ c.opened) (rows_here K c) c)
line K c if_rule a s =
    does_not_fit unless ((a.code ≡ ifs) × (s.code ≡ ifs) × (s.p ≡ a.p)) then
    goes (past_both (in_if c.ledger ∷ c.opened) c.ledger c)
line K c else_rule a s =
    does_not_fit unless ((a.code ≡ elses) × (s.code ≡ elses)) then
    else_line c.opened c
line K c end_rule a s =
    does_not_fit unless ((a.code ≡ ends) × (s.code ≡ ends)) then
    end_line c.opened c
line K c no_rule a s = never does_not_fit

-- "derivation over, statements left"; "none left, but a block open"; "some stream's position isn't its count"
unfoldable pub last_line : Kernel → Place → Line
last_line K c =
    statements_left unless AllTaken K c then
    block_open unless (c.opened ≡ []) then
    not_counted unless AllCounted K c then
    gives accepted

-- what is asked at place c: by the rule that comes next, or, where the derivation is over, at its end
unfoldable pub asked : Kernel → Place → Line
asked K c =
    elim (leb (length K.derivation) c.rule) [
      | true ↦ last_line K c
      | false ↦ line K c (rule (next_rule K c).code) (next_array K c) (next_stream K c)
    ]

-- ---- read off the table

-- a rule takes the derivation from place c to place d
pub record Step (K : Kernel) (c d : Place) : Type 0 where
  pub takes : Takes (asked K c) (goes_on d)

-- rules followed one after another
pub data Follows (K : Kernel) (c : Place) : Place → Type 0 where
  here : Follows K c c
  then : {d e : Place} → Follows K c d → Step K d e → Follows K c e

-- the derivation is over, and nothing is left
pub record Finished (K : Kernel) (c : Place) : Type 0 where
  pub takes : Takes (asked K c) accepted

-- the derivation follows the rules from beginning to end
pub record Derived (K : Kernel) : Type 0 where
  pub last : Place
  pub follows : Follows K (beginning K) last
  pub finished : Finished K last

-- refusals 10 to 19: something that is asked at place c does not hold, and this is its number
pub record Applies (K : Kernel) (c : Place) (number : ℕ) : Type 0 where
  pub refuses : Refuses (asked K c) number

-- it is the first that does not hold
pub record AppliesFirst (K : Kernel) (c : Place) (number : ℕ) : Type 0 where
  pub refuses : RefusesFirst (asked K c) number
