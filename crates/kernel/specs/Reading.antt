-- Reading a kernel file: what is refused with 1 to 5, and in which order.
use Rattle.std.specs.Prelude.{ℕ, zero, suc, ◌+◌, ◌-◌, ◌*◌, ◌%◌, ◌^◌, Bool, true, false, not, ◌&&◌, ◌||◌, List, [], ◌∷◌, length, get_or, take, drop, eqb, leb, ltb, pos}
use Rattle.numbers.specs.Result.{Result, ok, stop, ◌>>=◌, need, because}
use Rattle.numbers.specs.Lists.{every, alike}
use Rattle.numbers.specs.Words.{signed, words, between, within, inside, equal}
use Rattle.forms.specs.Form.{Form, around}
use Rattle.kernel.specs.Numbers.{bad_length, count_outside, field_outside, blocks_unmatched, too_deep, registers_section, buffers_section, arrays_section, array_program_section, stream_program_section, derivation_section}
use Rattle.kernel.specs.File.{Rec, record_of, numbers, nothing, Kernel, input, output, on, only, length_of, first_of, count_of, step_of, index, sets, ends, Op, set, copy, work, load, store, read, write, Statement, does, for, if, else, end, none, statement, first_rule, last_rule, position_row, buffer_row}

-- a refusal: its number, and the place given, section and record
pub data Fault : Type 0 where
  fault : (number section place : ℕ) → Fault

-- ---- counts and lengths, as met

-- section s is a count, from low to high: the count, and what follows
unfoldable pub count : (s low high : ℕ) → List ℕ → Result Fault (ℕ × List ℕ)
count s low high [] = stop (fault bad_length 0 0)
count s low high (n ∷ ws) = do
  _ ← need (fault count_outside s 0) (between low high n)
  ok (n, ws)

unfoldable pub records : ℕ → List ℕ → List Rec
records zero ws = []
records (suc n) ws = record_of (take 8 ws) ∷ records n (drop 8 ws)

-- section s is a count and that many records: the records, and what follows
unfoldable pub section : (s low high : ℕ) → List ℕ → Result Fault (List Rec × List ℕ)
section s low high ws = do
  (n, ws) ← count s low high ws
  _ ← need (fault bad_length 0 0) (leb (8 * n) (length ws))
  ok (records n ws, drop (8 * n) ws)

-- "R registers (1 to 32) and B buffers (0 to 16); A arrays (1 to 8); S and T statements (0 to 256 each); D records (0 to 1,024)"
unfoldable pub sections : List ℕ → Result Fault Kernel
sections ws = do
  (registers, ws) ← count registers_section 1 32 ws
  (buffers, ws) ← count buffers_section 0 16 ws
  (arrays, ws) ← section arrays_section 1 8 ws
  (array_program, ws) ← section array_program_section 0 256 ws
  (stream_program, ws) ← section stream_program_section 0 256 ws
  (derivation, ws) ← section derivation_section 0 1024 ws
  _ ← need (fault bad_length 0 0) (eqb (length ws) 0)
  ok (record {
    registers = registers;
    buffers = buffers;
    arrays = arrays;
    array_program = array_program;
    stream_program = stream_program;
    derivation = derivation;
  })

-- ---- arrays

unfoldable pub zeros : List ℕ → Bool
zeros ws = every (eqb 0) ws

-- "code 1 input or 2 output; p length 1 to 4,096; q first index; k count, 1 to length; x0 step, not 0 and within ±4,096; the rest 0. The first index
-- and first + step × (count − 1) lie in 0 to length − 1"
unfoldable pub array_fits : Rec → Bool
array_fits a =
    (on input a || on output a)
    && between 1 4096 (length_of a)
    && between 1 (length_of a) (count_of a)
    && not (equal (step_of a) (pos 0))
    && within 4096 (step_of a)
    && zeros (drop 1 a.x)
    && inside (length_of a) (first_of a)
    && inside (length_of a) (index a (count_of a - 1))

-- "Input lengths add up to at most 8,192, output lengths too": the arrays from number n on; i and o are the lengths of the inputs and of the outputs before
unfoldable pub arrays_fit : (n i o : ℕ) → List Rec → Result Fault (Unit {0})
arrays_fit n i o [] = ok tt
arrays_fit n i o (a ∷ rest) = do
  let i' = i + only input length_of a
  let o' = o + only output length_of a
  _ ← need (fault field_outside arrays_section n) (array_fits a && leb i' 8192 && leb o' 8192)
  arrays_fit (suc n) i' o' rest

-- ---- "a table gives, for each code, what each field may hold, and unused fields are 0"

pub data Kind : Type 0 where
  either array_only stream_only unused register an_input an_output term bound an_operator : Kind

-- 11 codes by 8 fields: which program has the code; then what p, q, k, x0, x1, x2, x3 may hold. The codes in their order: set, copy, work, load, store,
-- read, write, for, if, else, end
unfoldable pub table : List (List Kind)
table =
    (either ∷ register ∷ unused ∷ term ∷ term ∷ term ∷ term ∷ term ∷ [])
    ∷ (either ∷ register ∷ register ∷ unused ∷ unused ∷ unused ∷ unused ∷ unused ∷ [])
    ∷ (either ∷ register ∷ register ∷ register ∷ an_operator ∷ unused ∷ unused ∷ unused ∷ [])
    ∷ (array_only ∷ register ∷ an_input ∷ term ∷ term ∷ term ∷ term ∷ term ∷ [])
    ∷ (array_only ∷ register ∷ an_output ∷ term ∷ term ∷ term ∷ term ∷ term ∷ [])
    ∷ (stream_only ∷ register ∷ an_input ∷ unused ∷ unused ∷ unused ∷ unused ∷ unused ∷ [])
    ∷ (stream_only ∷ register ∷ an_output ∷ unused ∷ unused ∷ unused ∷ unused ∷ unused ∷ [])
    ∷ (either ∷ bound ∷ bound ∷ bound ∷ unused ∷ unused ∷ unused ∷ unused ∷ [])
    ∷ (either ∷ register ∷ unused ∷ unused ∷ unused ∷ unused ∷ unused ∷ unused ∷ [])
    ∷ (either ∷ unused ∷ unused ∷ unused ∷ unused ∷ unused ∷ unused ∷ unused ∷ [])
    ∷ (either ∷ unused ∷ unused ∷ unused ∷ unused ∷ unused ∷ unused ∷ unused ∷ [])
    ∷ []

-- what a program's fields are held to
pub record Scope : Type 0 where
  pub streaming : Bool
  pub registers : ℕ
  pub arrays : List Rec

-- "0 to R − 1 in the array program, 0 to R + B − 1 in the stream program"
abbrev pub array_scope : Kernel → Scope
array_scope K = record { streaming = false; registers = K.registers; arrays = K.arrays }

abbrev pub stream_scope : Kernel → Scope
stream_scope K = record { streaming = true; registers = K.registers + K.buffers; arrays = K.arrays }

unfoldable pub holds : Scope → Kind → ℕ → Bool
holds c either w = true
holds c array_only w = not c.streaming
holds c stream_only w = c.streaming
holds c unused w = eqb w 0
holds c register w = ltb w c.registers
holds c an_input w = on input (get_or c.arrays w nothing)
holds c an_output w = on output (get_or c.arrays w nothing)
holds c term w = within 1048576 (signed w)
holds c bound w = within 65536 (signed w)
holds c an_operator w = between 1 4 w

-- "k not 0, and (q − p) / k a whole number of at least 1"
unfoldable pub has_pass : Statement → Bool
has_pass (does o) = true
has_pass (for l) = leb 1 l.passes
has_pass (if p) = true
has_pass else = true
has_pass end = true
has_pass none = true

unfoldable pub statement_fits : Scope → Rec → Bool
statement_fits c r = between sets ends r.code && alike (holds c) (get_or table (r.code - 1) []) (numbers r) && has_pass (statement r)

-- ---- blocks

-- a block that is open: a for's, with its passes; an if's before and after its else
pub data Open : Type 0 where
  open_for : (passes : ℕ) → Open
  open_if open_else : Open

-- loops open, and their passes multiplied
unfoldable pub open_loops : List Open → ℕ
open_loops [] = 0
open_loops (open_for n ∷ os) = suc (open_loops os)
open_loops (open_if ∷ os) = open_loops os
open_loops (open_else ∷ os) = open_loops os

unfoldable pub all_passes : List Open → ℕ
all_passes [] = 1
all_passes (open_for n ∷ os) = n * all_passes os
all_passes (open_if ∷ os) = all_passes os
all_passes (open_else ∷ os) = all_passes os

-- "at most 8 deep, loops at most 4"; "the passes of a loop times those of all loops around it are at most 65,536"
unfoldable pub opened : List Open → Result ℕ (List Open)
opened os = do
  _ ← need too_deep (leb (length os) 8 && leb (open_loops os) 4 && leb (all_passes os) 65536)
  ok os

-- "Every if has one else"
unfoldable pub after_else : List Open → Result ℕ (List Open)
after_else [] = stop blocks_unmatched
after_else (open_for n ∷ os) = stop blocks_unmatched
after_else (open_if ∷ os) = ok (open_else ∷ os)
after_else (open_else ∷ os) = stop blocks_unmatched

unfoldable pub after_end : List Open → Result ℕ (List Open)
after_end [] = stop blocks_unmatched
after_end (open_for n ∷ os) = ok os
after_end (open_if ∷ os) = stop blocks_unmatched
after_end (open_else ∷ os) = ok os

-- "An index form has nonzero terms only for loops around it"
unfoldable pub names : Form → List Open → Result ℕ (List Open)
names f os = do
  _ ← need too_deep (around (open_loops os) f)
  ok os

unfoldable pub after_op : Op → List Open → Result ℕ (List Open)
after_op (set p f) os = names f os
after_op (copy p q) os = ok os
after_op (work o p q k) os = ok os
after_op (load p q f) os = names f os
after_op (store p q f) os = names f os
after_op (read p q) os = ok os
after_op (write p q) os = ok os

-- the blocks open after a statement, or 4 or 5 (what says nothing was refused with 3 before)
unfoldable pub after : Statement → List Open → Result ℕ (List Open)
after (does o) os = after_op o os
after (for l) os = opened (open_for l.passes ∷ os)
after (if p) os = opened (open_if ∷ os)
after else os = after_else os
after end os = after_end os
after none os = ok os

unfoldable pub closed : (s n : ℕ) → List Open → Result Fault (Unit {0})
closed s n [] = ok tt
closed s n (o ∷ os) = stop (fault blocks_unmatched s n)

-- the statements of section s from number n on, with these blocks open
unfoldable pub statements_fit : Scope → (s n : ℕ) → List Open → List Rec → Result Fault (Unit {0})
statements_fit c s n os [] = closed s n os
statements_fit c s n os (r ∷ rs) = do
  _ ← need (fault field_outside s n) (statement_fits c r)
  os ← because (λ number. fault number s n) (after (statement r) os)
  statements_fit c s (suc n) os rs

-- ---- the derivation

-- the number −1
abbrev pub minus_one : ℕ
minus_one = 2 ^ 32 - 1

unfoldable pub form_fits : Rec → Bool
form_fits r = every (λ w. within 1048576 (signed w)) (r.k ∷ r.x)

-- "Records of rules 1 to 10 have zeros in all seven other fields"; rows of code 11 and of code 12
unfoldable pub rule_fits : Kernel → Rec → Bool
rule_fits K r =
    between first_rule last_rule r.code && zeros (drop 1 (numbers r))
    || eqb r.code position_row && ltb r.p (length K.arrays) && eqb r.q 0 && form_fits r
    || eqb r.code buffer_row && ltb r.p K.buffers
    && (eqb r.q minus_one && zeros (r.k ∷ r.x) || ltb r.q (length K.arrays) && form_fits r)

unfoldable pub rules_fit : Kernel → (n : ℕ) → List Rec → Result Fault (Unit {0})
rules_fit K n [] = ok tt
rules_fit K n (r ∷ rs) = do
  _ ← need (fault field_outside derivation_section n) (rule_fits K r)
  rules_fit K (suc n) rs

-- ---- the whole

-- "The multiple of 4 comes first; then counts and lengths as met; then records in file order, lowest number first"
unfoldable pub read_file : List ℕ → Result Fault Kernel
read_file bytes = do
  _ ← need (fault bad_length 0 0) (eqb (length bytes % 4) 0)
  K ← sections (words bytes)
  _ ← arrays_fit 0 0 0 K.arrays
  _ ← statements_fit (array_scope K) array_program_section 0 [] K.array_program
  _ ← statements_fit (stream_scope K) stream_program_section 0 [] K.stream_program
  _ ← rules_fit K 0 K.derivation
  ok K
