-- "How the programs run": one machine for both languages.
use Rattle.std.specs.Prelude.{ℕ, zero, suc, ◌+◌, not, cond, List, get_or, eqb, ℤ, pos, nat_abs}
use Rattle.std.proofs.Math.Option.{Option, none, some}
use Rattle.std.proofs.Math.ListN
use Rattle.numbers.specs.Result.{Result, ok, stop, ◌>>=◌, need, because}
use Rattle.numbers.specs.Words.{low32, plus, minus, times, over, inside}
use Rattle.forms.specs.Form.{value, Loop, counter}
use Rattle.kernel.specs.Numbers.{unset, zero_divisor, index_outside, stream_empty, stream_full}
use Rattle.kernel.specs.File.{Operator, add, subtract, multiply, divide, Op, set, copy, work, load, store, read, write}
use Rattle.kernel.specs.Blocks.{Block, stops, plain, loop, branch}

-- of each array: how many cells (array run) or items (stream run) it has, and where they begin in its side's memory; the input memory
pub record Layout : Type 0 where
  pub size : ℕ → ℕ
  pub base : ℕ → ℕ
  pub input : List ℕ

-- registers, unset or a word; how many items of each stream were read or written; the output memory
pub record State : Type 0 where
  pub registers : List (Option ℕ)
  pub places : List ℕ
  pub output : List ℕ

-- the loops around: how many, and the counters of the four levels, 0 where no loop runs
pub record Counters : Type 0 where
  pub level : ℕ
  pub values : List ℤ

-- ---- registers, places and cells

-- "Using an unset register sticks (31)"
unfoldable pub word : Option ℕ → Result ℕ ℕ
word none = stop unset
word (some w) = ok w

-- (a register past the last, which no file that reads names, counts as 0)
unfoldable pub get : ℕ → State → Result ℕ ℕ
get p s = word (get_or s.registers p (some 0))

unfoldable pub put : ℕ → ℕ → State → State
put p w s = record { registers = ListN.set s.registers p (some w); places = s.places; output = s.output }

unfoldable pub place : ℕ → State → ℕ
place q s = get_or s.places q 0

unfoldable pub advance : ℕ → State → State
advance q s = record { registers = s.registers; places = ListN.set s.places q (place q s + 1); output = s.output }

-- what stands in cell i of input q, and cell i of output q changed to w
unfoldable pub cell : Layout → (q i : ℕ) → ℕ
cell e q i = get_or e.input (e.base q + i) 0

unfoldable pub keep : Layout → (q i w : ℕ) → State → State
keep e q i w s = record { registers = s.registers; places = s.places; output = ListN.set s.output (e.base q + i) w }

-- ---- statements that hold no block

-- "then a zero divisor (32)"
unfoldable pub result : Operator → ℕ → ℕ → Result ℕ ℕ
result add a b = ok (plus a b)
result subtract a b = ok (minus a b)
result multiply a b = ok (times a b)
result divide a b = do
  _ ← need zero_divisor (not (eqb b 0))
  ok (over a b)

-- the number of a cell that the array has, or the reason to stick
unfoldable pub cell_number : (reason n : ℕ) → ℤ → Result ℕ ℕ
cell_number reason n z = do
  _ ← need reason (inside n z)
  ok (nat_abs z)

-- "an index outside the array (33), an empty stream (34), a stream that has its full count (35)"
-- a read is a load, and a write a store, at the stream's own place
unfoldable pub perform : Layout → List ℤ → Op → State → Result ℕ State
perform e cs (set p f) s = ok (put p (low32 (value f cs)) s)
perform e cs (copy p q) s = do
  w ← get q s
  ok (put p w s)
perform e cs (work o p q k) s = do
  a ← get q s
  b ← get k s
  w ← result o a b
  ok (put p w s)
perform e cs (load p q f) s = do
  i ← cell_number index_outside (e.size q) (value f cs)
  ok (put p (cell e q i) s)
perform e cs (store p q f) s = do
  w ← get p s
  i ← cell_number index_outside (e.size q) (value f cs)
  ok (keep e q i w s)
perform e cs (read p q) s = do
  i ← cell_number stream_empty (e.size q) (pos (place q s))
  ok (advance q (put p (cell e q i) s))
perform e cs (write p q) s = do
  w ← get p s
  i ← cell_number stream_full (e.size q) (pos (place q s))
  ok (advance q (keep e q i w s))

-- ---- blocks

-- "stuck (reason, statement number)", with the state kept
pub data Stuck : Type 0 where
  stuck : (reason n : ℕ) → State → Stuck

-- statement n
unfoldable pub step : Layout → (n : ℕ) → Op → Counters → State → Result Stuck State
step e n o c s = because (λ reason. stuck reason n s) (perform e c.values o s)

-- one block or the other, by register p: statement n
unfoldable pub choose : (n p : ℕ) → (State → Result Stuck State) → (State → Result Stuck State) → State → Result Stuck State
choose n p then other s = do
  w ← because (λ reason. stuck reason n s) (get p s)
  cond (eqb w 0) other then s

-- around the body of loop l in pass m
abbrev pub in_pass : Loop → Counters → (m : ℕ) → Counters
in_pass l c m = record { level = c.level + 1; values = ListN.set c.values c.level (counter l m) }

-- n passes, the first of which has number m
unfoldable pub repeat : (ℕ → State → Result Stuck State) → (n m : ℕ) → State → Result Stuck State
repeat pass zero m s = ok s
repeat pass (suc n) m s = pass m s >>= repeat pass n (m + 1)

unfoldable pub run : Layout → Block → Counters → State → Result Stuck State
run e (stops n) c s = ok s
run e (plain n o rest) c s = do
  s ← step e n o c s
  run e rest c s
run e (loop n l body rest) c s = do
  s ← repeat (λ m s. run e body (in_pass l c m) s) l.passes 0 s
  run e rest c s
run e (branch n p then other rest) c s = do
  s ← choose n p (λ s. run e then c s) (λ s. run e other c s) s
  run e rest c s
