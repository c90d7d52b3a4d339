-- What a file that reads guarantees, as one record: `Reads K`. Contracts and proofs use this and not the text of the tests.
use Rattle.std.specs.Prelude.{◌≡◌, true, false, ◌⊎◌, List, [], ◌∷◌, map, ℕ, ◌-◌, ◌<◌, ◌≤◌, length, get_or, drop, ℤ, pos, nat_abs}
use Rattle.numbers.specs.Result.{ok}
use Rattle.numbers.specs.Lists.{sum}
use Rattle.numbers.specs.Words.{inside}
use Rattle.forms.specs.Form.{Form, coefficient, Loop, limit}
use Rattle.kernel.specs.File.{Rec, form, nothing, Kernel, input, output, side_of, only, length_of, count_of, step_of, index, Op, set, copy, work, load, store, read, write, Statement, does, for, if, else, end, none, statement}
use Rattle.kernel.specs.Reading.{Scope, array_scope, stream_scope, Open, after, minus_one}

-- z is an index of n cells
pub record Inside (n : ℕ) (z : ℤ) : Type 0 where
  pub at : ℕ
  pub is : z ≡ pos at
  pub below : at < n

-- an array record
pub record ArrayFits (a : Rec) : Type 0 where
  pub side : (side_of a ≡ input) ⊎ (side_of a ≡ output)
  pub short : length_of a ≤ 4096
  pub some : 1 ≤ count_of a
  pub counted : count_of a ≤ length_of a
  pub moves : step_of a ≡ pos 0 → ⊥
  pub step_small : nat_abs (step_of a) ≤ 4096
  pub first_inside : a.q < length_of a
  pub last_inside : inside (length_of a) (index a (count_of a - 1)) ≡ true

-- the five numbers of a form are within ±1,048,576
pub record FormSmall (f : Form) : Type 0 where
  pub k_small : nat_abs f.k ≤ 1048576
  pub x_small : (level : ℕ) → nat_abs (coefficient level f) ≤ 1048576

-- q is an array of that side
pub record OnSide (side : ℕ) (c : Scope) (q : ℕ) : Type 0 where
  pub there : q < length c.arrays
  pub its_side : side_of (get_or c.arrays q nothing) ≡ side

-- a statement that holds no block: registers, arrays of the right side, small forms, in a program that may have it
abbrev pub OpFits : Scope → Op → Type 0
OpFits c (set p f) = (p < c.registers) × FormSmall f
OpFits c (copy p q) = (p < c.registers) × (q < c.registers)
OpFits c (work o p q k) = (p < c.registers) × (q < c.registers) × (k < c.registers)
OpFits c (load p q f) = (p < c.registers) × OnSide input c q × FormSmall f × (c.streaming ≡ false)
OpFits c (store p q f) = (p < c.registers) × OnSide output c q × FormSmall f × (c.streaming ≡ false)
OpFits c (read p q) = (p < c.registers) × OnSide input c q × (c.streaming ≡ true)
OpFits c (write p q) = (p < c.registers) × OnSide output c q × (c.streaming ≡ true)

-- a for
pub record LoopFits (l : Loop) : Type 0 where
  pub some : 1 ≤ l.passes
  pub few : l.passes ≤ 131072
  pub moves : l.step ≡ pos 0 → ⊥
  pub first_small : nat_abs l.first ≤ 65536
  pub step_small : nat_abs l.step ≤ 65536
  pub limit_small : nat_abs (limit l) ≤ 65536

-- any statement
abbrev pub StatementFits : Scope → Statement → Type 0
StatementFits c (does o) = OpFits c o
StatementFits c (for l) = LoopFits l
StatementFits c (if p) = p < c.registers
StatementFits c else = Unit
StatementFits c end = Unit
StatementFits c none = ⊥

-- statements that fit, one after another, from these open blocks to none
pub data Nested (c : Scope) : List Open → List Rec → Type 0 where
  over : Nested c [] []
  then : {os os' : List Open} {r : Rec} {rs : List Rec} → StatementFits c (statement r) → after (statement r) os ≡ ok os' → Nested c os' rs → Nested c os (r ∷ rs)

-- from record i on the program reads, with some blocks open around
pub record Begins (rs : List Rec) (i : ℕ) : Type 0 where
  pub scope : Scope
  pub opens : List Open
  pub reads : Nested scope opens (drop i rs)

-- and one at least is open
pub record InBlock (rs : List Rec) (i : ℕ) : Type 0 where
  pub begins : Begins rs i
  pub some : 1 ≤ length begins.opens

-- a record of the derivation
pub record RuleFits (K : Kernel) (r : Rec) : Type 0 where
  pub form_small : FormSmall (form r)
  pub position_row : r.code ≡ 11 → r.p < length K.arrays
  pub buffer_row : r.code ≡ 12 → r.p < K.buffers
  pub held_array : r.code ≡ 12 → (r.q ≡ minus_one) ⊎ (r.q < length K.arrays)

-- every element of a row
abbrev pub All {ℓ} : {A : Type 0} → (A → Type ℓ) → List A → Type ℓ
All P [] = Unit
All P (x ∷ xs) = P x × All P xs

-- the whole file
pub record Reads (K : Kernel) : Type 0 where
  pub some_registers : 1 ≤ K.registers
  pub few_registers : K.registers ≤ 32
  pub few_buffers : K.buffers ≤ 16
  pub some_arrays : 1 ≤ length K.arrays
  pub few_arrays : length K.arrays ≤ 8
  pub arrays : All ArrayFits K.arrays
  pub input_lengths : sum (map (only input length_of) K.arrays) ≤ 8192
  pub output_lengths : sum (map (only output length_of) K.arrays) ≤ 8192
  pub few_array_statements : length K.array_program ≤ 256
  pub array_program : Nested (array_scope K) [] K.array_program
  pub few_stream_statements : length K.stream_program ≤ 256
  pub stream_program : Nested (stream_scope K) [] K.stream_program
  pub few_rules : length K.derivation ≤ 1024
  pub derivation : All (RuleFits K) K.derivation
