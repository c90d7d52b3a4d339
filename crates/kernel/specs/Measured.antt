-- "Measured by hand": the starred lines as one table, each a question about a file's bytes and the numbers given back.
use Rattle.std.specs.Prelude.{ℕ, suc, ◌-◌, ◌^◌, ◌≡◌, List, [], ◌∷◌, ◌++◌, map, length, take, drop, set, replicate}
use Rattle.numbers.specs.Result.{Result, ok, stop}
use Rattle.numbers.specs.Words.{words, bytes}
use Rattle.kernel.specs.Reading.{Fault}
use Rattle.kernel.specs.Memory.{Ran, array_run, stream_run, lay_out, putting_back, afterwards}
use Rattle.kernel.specs.Answers.{check, fault_numbers, check_numbers, ending_numbers, printed}

-- ---- files by hand

-- a record's numbers; those not written are 0
abbrev pub Row : Type 0
Row = List ℕ

unfoldable pub section : List Row → List ℕ
section [] = []
section (r ∷ rs) = take 8 (r ++ replicate 8 0) ++ section rs

-- the number −n
unfoldable pub neg : ℕ → ℕ
neg n = 2 ^ 32 - n

pub record Sheet : Type 0 where
  pub registers : ℕ
  pub buffers : ℕ
  pub arrays : List Row
  pub array_program : List Row
  pub stream_program : List Row
  pub derivation : List Row

unfoldable pub counted : List Row → List ℕ
counted rs = length rs ∷ section rs

unfoldable pub file : Sheet → List ℕ
file s = bytes (s.registers ∷ s.buffers ∷ counted s.arrays ++ counted s.array_program ++ counted s.stream_program ++ counted s.derivation)

-- a row of records without its n-th
unfoldable pub without : ℕ → List Row → List Row
without n rs = take n rs ++ drop (suc n) rs

-- ---- the smoother

unfoldable pub input_array : Row
input_array = 1 ∷ 4 ∷ 0 ∷ 4 ∷ 1 ∷ []

unfoldable pub output_array : Row
output_array = 2 ∷ 3 ∷ 0 ∷ 3 ∷ 1 ∷ []

unfoldable pub array_side : List Row
array_side =
    (8 ∷ 0 ∷ 3 ∷ 1 ∷ [])  -- 0: for 0, 3, 1
    ∷ (4 ∷ 0 ∷ 0 ∷ 0 ∷ 1 ∷ [])  -- 1: load r0 at c
    ∷ (4 ∷ 1 ∷ 0 ∷ 1 ∷ 1 ∷ [])  -- 2: load r1 at c + 1
    ∷ (3 ∷ 0 ∷ 0 ∷ 1 ∷ 1 ∷ [])  -- 3: r0 := r0 + r1
    ∷ (1 ∷ 1 ∷ 0 ∷ 2 ∷ [])  -- 4: r1 := 2
    ∷ (3 ∷ 0 ∷ 0 ∷ 1 ∷ 4 ∷ [])  -- 5: r0 := r0 / r1
    ∷ (5 ∷ 0 ∷ 1 ∷ 0 ∷ 1 ∷ [])  -- 6: store r0 at c
    ∷ (11 ∷ [])  -- 7: end
    ∷ []

unfoldable pub stream_side : List Row
stream_side =
    (6 ∷ 2 ∷ 0 ∷ [])  -- 0: read b
    ∷ (8 ∷ 0 ∷ 3 ∷ 1 ∷ [])  -- 1: for 0, 3, 1
    ∷ (2 ∷ 0 ∷ 2 ∷ [])  -- 2: copy b to r0
    ∷ (6 ∷ 2 ∷ 0 ∷ [])  -- 3: read b
    ∷ (2 ∷ 1 ∷ 2 ∷ [])  -- 4: copy b to r1
    ∷ (3 ∷ 0 ∷ 0 ∷ 1 ∷ 1 ∷ [])  -- 5: r0 := r0 + r1
    ∷ (1 ∷ 1 ∷ 0 ∷ 2 ∷ [])  -- 6: r1 := 2
    ∷ (3 ∷ 0 ∷ 0 ∷ 1 ∷ 4 ∷ [])  -- 7: r0 := r0 / r1
    ∷ (7 ∷ 0 ∷ 1 ∷ [])  -- 8: write r0
    ∷ (11 ∷ [])  -- 9: end
    ∷ []

unfoldable pub ties : List Row
ties =
    (3 ∷ [])  -- 0: fill
    ∷ (7 ∷ [])  -- 1: for
    ∷ (11 ∷ 0 ∷ 0 ∷ 1 ∷ 1 ∷ [])  -- 2: the input's position is c + 1
    ∷ (11 ∷ 1 ∷ 0 ∷ 0 ∷ 1 ∷ [])  -- 3: the output's is c
    ∷ (12 ∷ 0 ∷ 0 ∷ 0 ∷ 1 ∷ [])  -- 4: the buffer holds the input at c
    ∷ (4 ∷ [])  -- 5: use
    ∷ (3 ∷ [])  -- 6: fill
    ∷ (4 ∷ [])  -- 7: use
    ∷ (1 ∷ [])  -- 8: same
    ∷ (1 ∷ [])  -- 9: same
    ∷ (1 ∷ [])  -- 10: same
    ∷ (6 ∷ [])  -- 11: write
    ∷ (10 ∷ [])  -- 12: end
    ∷ []

unfoldable pub smoother : List Row → List Row → List Row → List Row → List ℕ
smoother arrays ones twos rules =
    file (record { registers = 2; buffers = 1; arrays = arrays; array_program = ones; stream_program = twos; derivation = rules })

unfoldable pub smooth : List ℕ
smooth = smoother (input_array ∷ output_array ∷ []) array_side stream_side ties

-- the smoother with other arrays, with another derivation, and with r1 set to n
unfoldable pub with_arrays : Row → Row → List ℕ
with_arrays a b = smoother (a ∷ b ∷ []) array_side stream_side ties

unfoldable pub with_ties : List Row → List ℕ
with_ties rules = smoother (input_array ∷ output_array ∷ []) array_side stream_side rules

unfoldable pub dividing_by : ℕ → List ℕ
dividing_by n = smoother (input_array ∷ output_array ∷ []) (set array_side 4 (1 ∷ 1 ∷ 0 ∷ n ∷ [])) (set stream_side 6 (1 ∷ 1 ∷ 0 ∷ n ∷ [])) ties

-- the first item, the operation, the second: r0 := r0 op r1, stored
unfoldable pub reckoner : ℕ → List ℕ
reckoner op = file (record {
  registers = 2;
  buffers = 0;
  arrays = (1 ∷ 2 ∷ 0 ∷ 2 ∷ 1 ∷ []) ∷ (2 ∷ 1 ∷ 0 ∷ 1 ∷ 1 ∷ []) ∷ [];
  array_program = (4 ∷ 0 ∷ 0 ∷ 0 ∷ []) ∷ (4 ∷ 1 ∷ 0 ∷ 1 ∷ []) ∷ (3 ∷ 0 ∷ 0 ∷ 1 ∷ op ∷ []) ∷ (5 ∷ 0 ∷ 1 ∷ []) ∷ [];
  stream_program = (6 ∷ 0 ∷ 0 ∷ []) ∷ (6 ∷ 1 ∷ 0 ∷ []) ∷ (3 ∷ 0 ∷ 0 ∷ 1 ∷ op ∷ []) ∷ (7 ∷ 0 ∷ 1 ∷ []) ∷ [];
  derivation = (2 ∷ []) ∷ (2 ∷ []) ∷ (1 ∷ []) ∷ (6 ∷ []) ∷ [];
})

-- ---- questions

-- what is asked of a file; the calls on memory are lent an area for n words that holds 7 in every cell
pub data Question : Type 0 where
  checking : (file : List ℕ) → Question
  printing : (standard_input : List ℕ) → Question
  array_running stream_running laying_out back_putting : (file memory : List ℕ) → (n : ℕ) → Question

unfoldable pub lent : ℕ → List ℕ
lent n = bytes (replicate n 7)

-- how a run ended, what it read and wrote, and the lent area afterwards
unfoldable pub run_numbers : (area : List ℕ) → Result Fault Ran → List ℕ
run_numbers area (ok r) = ending_numbers r.ending ++ r.read ∷ r.written ∷ words (afterwards (λ r. r.memory) area (ok r))
run_numbers area (stop f) = fault_numbers f ++ words (afterwards {A = Ran} (λ r. r.memory) area (stop f))

-- the lent area afterwards, after the refusal's numbers if there is one
unfoldable pub copy_numbers : (area : List ℕ) → Result Fault (List ℕ) → List ℕ
copy_numbers area (ok m) = words (afterwards (λ m. m) area (ok m))
copy_numbers area (stop f) = fault_numbers f ++ words (afterwards {A = List ℕ} (λ m. m) area (stop f))

unfoldable pub answer : Question → List ℕ
answer (checking f) = check_numbers (check f)
answer (printing f) = printed f
answer (array_running f m n) = run_numbers (lent n) (array_run f (bytes m) (lent n))
answer (stream_running f m n) = run_numbers (lent n) (stream_run f (bytes m) (lent n))
answer (laying_out f m n) = copy_numbers (lent n) (lay_out f (bytes m) (lent n))
answer (back_putting f m n) = copy_numbers (lent n) (putting_back f (bytes m) (lent n))

-- a table of questions and answers, and that the definitions give those answers
abbrev pub Table : Type 0
Table = List (Question × List ℕ)

abbrev pub Computes : Table → Type 0
Computes table = map (λ l. answer l.0) table ≡ map (λ l. l.1) table

-- ---- the starred lines

unfoldable pub starred : Table
starred =
    -- "Smoother: accepted"
    (checking smooth, 0 ∷ [])
    -- "On 10, 20, 30, 41 both outputs are 15, 25, 35; 4 items read, 3 written"
    ∷ (array_running smooth (10 ∷ 20 ∷ 30 ∷ 41 ∷ []) 3, 0 ∷ 0 ∷ 0 ∷ 0 ∷ 15 ∷ 25 ∷ 35 ∷ [])
    ∷ (stream_running smooth (10 ∷ 20 ∷ 30 ∷ 41 ∷ []) 3, 0 ∷ 0 ∷ 4 ∷ 3 ∷ 15 ∷ 25 ∷ 35 ∷ [])
    -- "Position row c + 2 in place of c + 1: 14"
    ∷ (checking (with_ties (set ties 2 (11 ∷ 0 ∷ 0 ∷ 2 ∷ 1 ∷ []))), 14 ∷ 1 ∷ 0 ∷ 1 ∷ [])
    -- "Buffer row nothing: 13 at the first use"
    ∷ (checking (with_ties (set ties 4 (12 ∷ 0 ∷ neg 1 ∷ []))), 13 ∷ 5 ∷ 1 ∷ 2 ∷ [])
    -- "Second fill and its read left out: 13 at the second use"
    ∷ (checking (smoother (input_array ∷ output_array ∷ []) array_side (without 3 stream_side) (without 6 ties)), 13 ∷ 6 ∷ 2 ∷ 3 ∷ [])
    -- "Input count 3: 11 at the second fill"
    ∷ (checking (with_arrays (1 ∷ 4 ∷ 0 ∷ 3 ∷ 1 ∷ []) output_array), 11 ∷ 6 ∷ 2 ∷ 3 ∷ [])
    -- "Input length and count 5: 19"
    ∷ (checking (with_arrays (1 ∷ 5 ∷ 0 ∷ 5 ∷ 1 ∷ []) output_array), 19 ∷ 13 ∷ 8 ∷ 10 ∷ [])
    -- "Output order 2, 3, −1: 12 at the write"
    ∷ (checking (with_arrays input_array (2 ∷ 3 ∷ 2 ∷ 3 ∷ neg 1 ∷ [])), 12 ∷ 11 ∷ 6 ∷ 8 ∷ [])
    -- "Derivation without its last record: 17"
    ∷ (checking (with_ties (without 12 ties)), 17 ∷ 12 ∷ 7 ∷ 9 ∷ [])
    -- "−7 / 2 is −3"
    ∷ (array_running (reckoner 4) (neg 7 ∷ 2 ∷ []) 1, 0 ∷ 0 ∷ 0 ∷ 0 ∷ neg 3 ∷ [])
    ∷ (stream_running (reckoner 4) (neg 7 ∷ 2 ∷ []) 1, 0 ∷ 0 ∷ 2 ∷ 1 ∷ neg 3 ∷ [])
    -- "2,147,483,647 + 1 is −2,147,483,648"
    ∷ (array_running (reckoner 1) (2147483647 ∷ 1 ∷ []) 1, 0 ∷ 0 ∷ 0 ∷ 0 ∷ neg 2147483648 ∷ [])
    ∷ (stream_running (reckoner 1) (2147483647 ∷ 1 ∷ []) 1, 0 ∷ 0 ∷ 2 ∷ 1 ∷ neg 2147483648 ∷ [])
    -- "Smoother with r1 set to 0 in place of 2: accepted, and both runs stick, 32"
    ∷ (checking (dividing_by 0), 0 ∷ [])
    ∷ (array_running (dividing_by 0) (10 ∷ 20 ∷ 30 ∷ 41 ∷ []) 3, 32 ∷ 5 ∷ 0 ∷ 0 ∷ 0 ∷ 0 ∷ 0 ∷ [])
    ∷ (stream_running (dividing_by 0) (10 ∷ 20 ∷ 30 ∷ 41 ∷ []) 3, 32 ∷ 7 ∷ 2 ∷ 0 ∷ 0 ∷ 0 ∷ 0 ∷ [])
    ∷ []
