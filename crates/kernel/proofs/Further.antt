-- A second table, computed like the first: a file for every number, place and operation that no starred line gives, so that a changed
-- definition shows here too.
use Prim.Native.Nat.{ℕ, ◌^◌}
use mathlib.Core.Path.{◌≡◌, refl}
use mathlib.Core.List.{List, [], ◌∷◌, ◌++◌}
use lib.ListN.{take, set, replicate}
use Rattle.numbers.specs.Result.{stop}
use Rattle.numbers.specs.Words.{bytes}
use Rattle.forms.specs.Form.{Loop}
use Rattle.kernel.specs.Ledger.{Ledger}
use Rattle.kernel.specs.Derivation.{Opened, in_for, in_if, in_else, Place}
use Rattle.kernel.specs.Check.{at_else, at_end, finish}
use Rattle.kernel.specs.Answers.{shown}
use Rattle.kernel.specs.Measured.{Row, section, neg, counted, file, without, input_array, output_array, array_side, stream_side, ties, smoother, smooth, with_arrays, with_ties, dividing_by, reckoner, checking, printing, array_running, stream_running, laying_out, back_putting, lent, run_numbers, copy_numbers, answer, Table, Computes}
use Rattle.kernel.proofs.Open.{kernel_open}

-- two registers, a buffer, an input of two items and an output of one, with these programs and this derivation
unfoldable programs : List Row → List Row → List Row → List ℕ
programs ones twos rules = file (record {
  registers = 2;
  buffers = 1;
  arrays = (1 ∷ 2 ∷ 0 ∷ 2 ∷ 1 ∷ []) ∷ (2 ∷ 1 ∷ 0 ∷ 1 ∷ 1 ∷ []) ∷ [];
  array_program = ones;
  stream_program = twos;
  derivation = rules;
})

-- an array program alone, and a stream program alone
unfoldable array_alone : List Row → List ℕ
array_alone ones = programs ones [] []

unfoldable stream_alone : List Row → List ℕ
stream_alone twos = programs [] twos []

-- arrays alone
unfoldable arrays_alone : List Row → List ℕ
arrays_alone arrays = file (record { registers = 1; buffers = 0; arrays = arrays; array_program = []; stream_program = []; derivation = [] })

-- an if around a statement of each branch, in both programs
unfoldable forked : Row → Row → Row → Row → List Row → List ℕ
forked a b c d rules = programs
    ((1 ∷ 0 ∷ []) ∷ (9 ∷ 0 ∷ []) ∷ a ∷ (10 ∷ []) ∷ b ∷ (11 ∷ []) ∷ [])
    ((1 ∷ 0 ∷ []) ∷ (9 ∷ 0 ∷ []) ∷ c ∷ (10 ∷ []) ∷ d ∷ (11 ∷ []) ∷ [])
    ((1 ∷ []) ∷ (8 ∷ []) ∷ rules)

unfoldable reading_lines : Table
reading_lines =
    -- 1: no multiple of 4; too short; something left over
    (checking (1 ∷ 0 ∷ 0 ∷ []), 1 ∷ 0 ∷ 0 ∷ [])
    ∷ (checking (take 12 smooth), 1 ∷ 0 ∷ 0 ∷ [])
    ∷ (checking [], 1 ∷ 0 ∷ 0 ∷ [])
    ∷ (checking (bytes (1 ∷ 0 ∷ 1 ∷ 0 ∷ 0 ∷ 0 ∷ 0 ∷ 0 ∷ 0 ∷ 0 ∷ [])), 1 ∷ 0 ∷ 0 ∷ [])
    ∷ (checking (smooth ++ 0 ∷ 0 ∷ 0 ∷ 0 ∷ []), 1 ∷ 0 ∷ 0 ∷ [])
    -- 2: each count
    ∷ (checking (bytes (33 ∷ [])), 2 ∷ 1 ∷ 0 ∷ [])
    ∷ (checking (bytes (1 ∷ 17 ∷ [])), 2 ∷ 2 ∷ 0 ∷ [])
    ∷ (checking (bytes (1 ∷ 0 ∷ 0 ∷ [])), 2 ∷ 3 ∷ 0 ∷ [])
    ∷ (checking (bytes (1 ∷ 0 ∷ 1 ∷ 0 ∷ 0 ∷ 0 ∷ 0 ∷ 0 ∷ 0 ∷ 0 ∷ 0 ∷ 257 ∷ [])), 2 ∷ 4 ∷ 0 ∷ [])
    ∷ (checking (bytes (1 ∷ 0 ∷ 1 ∷ 0 ∷ 0 ∷ 0 ∷ 0 ∷ 0 ∷ 0 ∷ 0 ∷ 0 ∷ 0 ∷ neg 1 ∷ [])), 2 ∷ 5 ∷ 0 ∷ [])
    ∷ (checking (bytes (1 ∷ 0 ∷ 1 ∷ 0 ∷ 0 ∷ 0 ∷ 0 ∷ 0 ∷ 0 ∷ 0 ∷ 0 ∷ 0 ∷ 0 ∷ 1025 ∷ [])), 2 ∷ 6 ∷ 0 ∷ [])
    -- 3: an array's last index, its step; lengths over 8,192, of inputs alone
    ∷ (checking (arrays_alone ((1 ∷ 4 ∷ 1 ∷ 4 ∷ 1 ∷ []) ∷ [])), 3 ∷ 3 ∷ 0 ∷ [])
    ∷ (checking (arrays_alone ((1 ∷ 4 ∷ 0 ∷ 1 ∷ 0 ∷ []) ∷ [])), 3 ∷ 3 ∷ 0 ∷ [])
    ∷ (checking (arrays_alone ((1 ∷ 4096 ∷ 0 ∷ 1 ∷ 1 ∷ []) ∷ (2 ∷ 4096 ∷ 0 ∷ 1 ∷ 1 ∷ []) ∷ (1 ∷ 4096 ∷ 0 ∷ 1 ∷ 1 ∷ []) ∷ (1 ∷ 1 ∷ 0 ∷ 1 ∷ 1 ∷ []) ∷ [])), 3 ∷ 3 ∷ 3 ∷ [])
    -- 3: a read in the array program; a buffer in the array program; loop 0 to 3 step 2; a rule with a field; a row of a buffer that is not there
    ∷ (checking (array_alone ((6 ∷ 0 ∷ 0 ∷ []) ∷ [])), 3 ∷ 4 ∷ 0 ∷ [])
    ∷ (checking (array_alone ((2 ∷ 0 ∷ 2 ∷ []) ∷ [])), 3 ∷ 4 ∷ 0 ∷ [])
    ∷ (checking (stream_alone ((8 ∷ 0 ∷ 3 ∷ 2 ∷ []) ∷ (11 ∷ []) ∷ [])), 3 ∷ 5 ∷ 0 ∷ [])
    ∷ (checking (with_ties (ties ++ (3 ∷ 1 ∷ []) ∷ [])), 3 ∷ 6 ∷ 13 ∷ [])
    ∷ (checking (with_ties (ties ++ (12 ∷ 1 ∷ []) ∷ [])), 3 ∷ 6 ∷ 13 ∷ [])
    -- 4: an else with nothing open, in a for, for the second time; an end too many; no else; a block left open
    ∷ (checking (array_alone ((10 ∷ []) ∷ [])), 4 ∷ 4 ∷ 0 ∷ [])
    ∷ (checking (array_alone ((8 ∷ 0 ∷ 3 ∷ 1 ∷ []) ∷ (10 ∷ []) ∷ [])), 4 ∷ 4 ∷ 1 ∷ [])
    ∷ (checking (array_alone ((9 ∷ 0 ∷ []) ∷ (10 ∷ []) ∷ (10 ∷ []) ∷ [])), 4 ∷ 4 ∷ 2 ∷ [])
    ∷ (checking (array_alone ((11 ∷ []) ∷ [])), 4 ∷ 4 ∷ 0 ∷ [])
    ∷ (checking (stream_alone ((9 ∷ 0 ∷ []) ∷ (11 ∷ []) ∷ [])), 4 ∷ 5 ∷ 1 ∷ [])
    ∷ (checking (stream_alone ((8 ∷ 0 ∷ 3 ∷ 1 ∷ []) ∷ [])), 4 ∷ 5 ∷ 1 ∷ [])
    -- 5: a counter that is not around; passes 65,536 and an inner loop of 2; loop level 4; nine blocks
    ∷ (checking (array_alone ((4 ∷ 0 ∷ 0 ∷ 0 ∷ 1 ∷ []) ∷ [])), 5 ∷ 4 ∷ 0 ∷ [])
    ∷ (checking (array_alone ((8 ∷ 0 ∷ 65536 ∷ 1 ∷ []) ∷ (8 ∷ 0 ∷ 2 ∷ 1 ∷ []) ∷ (11 ∷ []) ∷ (11 ∷ []) ∷ [])), 5 ∷ 4 ∷ 1 ∷ [])
    ∷ (checking (array_alone (replicate 5 (8 ∷ 0 ∷ 1 ∷ 1 ∷ []) ++ replicate 5 (11 ∷ []))), 5 ∷ 4 ∷ 4 ∷ [])
    ∷ (checking (array_alone (replicate 9 (9 ∷ 0 ∷ []) ++ replicate 9 (10 ∷ []))), 5 ∷ 4 ∷ 8 ∷ [])
    ∷ []

unfoldable check_lines : Table
check_lines =
    -- 10: each rule where it does not fit
    (checking (programs ((4 ∷ 0 ∷ 0 ∷ []) ∷ []) ((6 ∷ 0 ∷ 0 ∷ []) ∷ []) ((1 ∷ []) ∷ [])), 10 ∷ 0 ∷ 0 ∷ 0 ∷ [])
    ∷ (checking (with_ties ((2 ∷ []) ∷ [])), 10 ∷ 0 ∷ 0 ∷ 0 ∷ [])
    ∷ (checking (programs [] ((6 ∷ 0 ∷ 0 ∷ []) ∷ []) ((3 ∷ []) ∷ [])), 10 ∷ 0 ∷ 0 ∷ 0 ∷ [])
    ∷ (checking (programs ((4 ∷ 0 ∷ 0 ∷ []) ∷ []) ((6 ∷ 0 ∷ 0 ∷ []) ∷ []) ((4 ∷ []) ∷ [])), 10 ∷ 0 ∷ 0 ∷ 0 ∷ [])
    ∷ (checking (programs [] ((2 ∷ 0 ∷ 1 ∷ []) ∷ []) ((5 ∷ []) ∷ [])), 10 ∷ 0 ∷ 0 ∷ 0 ∷ [])
    ∷ (checking (programs ((5 ∷ 0 ∷ 1 ∷ []) ∷ []) ((6 ∷ 0 ∷ 0 ∷ []) ∷ []) ((6 ∷ []) ∷ [])), 10 ∷ 0 ∷ 0 ∷ 0 ∷ [])
    ∷ (checking (with_ties ((7 ∷ []) ∷ [])), 10 ∷ 0 ∷ 0 ∷ 0 ∷ [])
    ∷ (checking (with_ties ((8 ∷ []) ∷ [])), 10 ∷ 0 ∷ 0 ∷ 0 ∷ [])
    ∷ (checking (with_ties ((9 ∷ []) ∷ [])), 10 ∷ 0 ∷ 0 ∷ 0 ∷ [])
    ∷ (checking (with_ties ((10 ∷ []) ∷ [])), 10 ∷ 0 ∷ 0 ∷ 0 ∷ [])
    -- 10: a stray row; rows missing; a row out of order; a row that names a later counter; an else for an end
    ∷ (checking (with_ties (take 5 ties ++ (12 ∷ 0 ∷ 0 ∷ 0 ∷ 1 ∷ []) ∷ [])), 10 ∷ 5 ∷ 1 ∷ 2 ∷ [])
    ∷ (checking (with_ties (take 4 ties)), 10 ∷ 1 ∷ 0 ∷ 1 ∷ [])
    ∷ (checking (with_ties (set ties 3 (11 ∷ 0 ∷ 0 ∷ 0 ∷ 1 ∷ []))), 10 ∷ 1 ∷ 0 ∷ 1 ∷ [])
    ∷ (checking (with_ties (set ties 3 (11 ∷ 1 ∷ 0 ∷ 0 ∷ 1 ∷ 1 ∷ []))), 10 ∷ 1 ∷ 0 ∷ 1 ∷ [])
    ∷ (checking (with_ties (set ties 12 (9 ∷ []))), 10 ∷ 12 ∷ 7 ∷ 9 ∷ [])
    -- 15: the input's position goes on by 1 a pass, and its row by 2
    ∷ (checking (with_ties (set ties 2 (11 ∷ 0 ∷ 0 ∷ 1 ∷ 2 ∷ []))), 11 ∷ 6 ∷ 2 ∷ 3 ∷ [])
    ∷ (checking (with_ties (set ties 3 (11 ∷ 1 ∷ []))), 12 ∷ 11 ∷ 6 ∷ 8 ∷ [])
    ∷ (checking (programs ((8 ∷ 0 ∷ 2 ∷ 1 ∷ []) ∷ (11 ∷ []) ∷ []) ((8 ∷ 0 ∷ 2 ∷ 1 ∷ []) ∷ (11 ∷ []) ∷ []) ((7 ∷ []) ∷ (11 ∷ 0 ∷ 0 ∷ 0 ∷ 1 ∷ []) ∷ (11 ∷ 1 ∷ []) ∷ (12 ∷ 0 ∷ neg 1 ∷ []) ∷ (10 ∷ []) ∷ [])), 15 ∷ 4 ∷ 1 ∷ 1 ∷ [])
    -- 16: one branch reads and the other does not
    ∷ (checking (forked (4 ∷ 1 ∷ 0 ∷ []) (1 ∷ 1 ∷ []) (6 ∷ 1 ∷ 0 ∷ []) (1 ∷ 1 ∷ []) ((2 ∷ []) ∷ (9 ∷ []) ∷ (1 ∷ []) ∷ (10 ∷ []) ∷ [])), 16 ∷ 5 ∷ 5 ∷ 5 ∷ [])
    -- 13: a buffer that one branch filled is not kept after the if
    ∷ (checking (programs ((1 ∷ 0 ∷ []) ∷ (9 ∷ 0 ∷ []) ∷ (4 ∷ 1 ∷ 0 ∷ []) ∷ (10 ∷ []) ∷ (11 ∷ []) ∷ (4 ∷ 1 ∷ 0 ∷ []) ∷ []) ((1 ∷ 0 ∷ []) ∷ (9 ∷ 0 ∷ []) ∷ (6 ∷ 1 ∷ 0 ∷ []) ∷ (10 ∷ []) ∷ (6 ∷ 2 ∷ 0 ∷ []) ∷ (11 ∷ []) ∷ (2 ∷ 1 ∷ 2 ∷ []) ∷ []) ((1 ∷ []) ∷ (8 ∷ []) ∷ (2 ∷ []) ∷ (9 ∷ []) ∷ (3 ∷ []) ∷ (10 ∷ []) ∷ (4 ∷ []) ∷ [])), 13 ∷ 6 ∷ 5 ∷ 6 ∷ [])
    -- 13: a move of a buffer that holds nothing
    ∷ (checking (programs [] ((2 ∷ 2 ∷ 2 ∷ []) ∷ []) ((5 ∷ []) ∷ [])), 13 ∷ 0 ∷ 0 ∷ 0 ∷ [])
    -- the lines of the program
    ∷ (printing smooth, 97 ∷ 99 ∷ 99 ∷ 101 ∷ 112 ∷ 116 ∷ 101 ∷ 100 ∷ 10 ∷ [])
    ∷ (printing (bytes (33 ∷ [])), 114 ∷ 101 ∷ 97 ∷ 100 ∷ 32 ∷ 50 ∷ 32 ∷ 49 ∷ 32 ∷ 48 ∷ 10 ∷ [])
    ∷ (printing (with_ties (without 12 ties)), 99 ∷ 104 ∷ 101 ∷ 99 ∷ 107 ∷ 32 ∷ 49 ∷ 55 ∷ 32 ∷ 49 ∷ 50 ∷ 32 ∷ 55 ∷ 32 ∷ 57 ∷ 10 ∷ [])
    ∷ []

unfoldable run_lines : Table
run_lines =
    -- 21, and the lent memory as it was
    (array_running smooth (10 ∷ 20 ∷ 30 ∷ []) 3, 21 ∷ 0 ∷ 0 ∷ 7 ∷ 7 ∷ 7 ∷ [])
    ∷ (stream_running smooth (10 ∷ 20 ∷ 30 ∷ 41 ∷ []) 2, 21 ∷ 0 ∷ 0 ∷ 7 ∷ 7 ∷ [])
    -- 31: before a zero divisor, an index outside, a full stream; an if, a copy
    ∷ (array_running (array_alone ((3 ∷ 0 ∷ 0 ∷ 1 ∷ 4 ∷ []) ∷ [])) (0 ∷ 0 ∷ []) 1, 31 ∷ 0 ∷ 0 ∷ 0 ∷ 0 ∷ [])
    ∷ (array_running (array_alone ((5 ∷ 0 ∷ 1 ∷ 1 ∷ []) ∷ [])) (0 ∷ 0 ∷ []) 1, 31 ∷ 0 ∷ 0 ∷ 0 ∷ 0 ∷ [])
    ∷ (stream_running (stream_alone ((6 ∷ 0 ∷ 0 ∷ []) ∷ (7 ∷ 0 ∷ 1 ∷ []) ∷ (7 ∷ 1 ∷ 1 ∷ []) ∷ [])) (5 ∷ 6 ∷ []) 1, 31 ∷ 2 ∷ 1 ∷ 1 ∷ 5 ∷ [])
    ∷ (array_running (array_alone ((9 ∷ 1 ∷ []) ∷ (10 ∷ []) ∷ (11 ∷ []) ∷ [])) (0 ∷ 0 ∷ []) 1, 31 ∷ 0 ∷ 0 ∷ 0 ∷ 0 ∷ [])
    ∷ (array_running (array_alone ((2 ∷ 0 ∷ 1 ∷ []) ∷ [])) (0 ∷ 0 ∷ []) 1, 31 ∷ 0 ∷ 0 ∷ 0 ∷ 0 ∷ [])
    -- 33, 34, 35, with what was written before
    ∷ (array_running (array_alone ((4 ∷ 0 ∷ 0 ∷ 1 ∷ []) ∷ (5 ∷ 0 ∷ 1 ∷ []) ∷ (4 ∷ 0 ∷ 0 ∷ neg 1 ∷ []) ∷ [])) (5 ∷ 6 ∷ []) 1, 33 ∷ 2 ∷ 0 ∷ 0 ∷ 6 ∷ [])
    ∷ (stream_running (stream_alone ((6 ∷ 0 ∷ 0 ∷ []) ∷ (6 ∷ 0 ∷ 0 ∷ []) ∷ (6 ∷ 0 ∷ 0 ∷ []) ∷ [])) (5 ∷ 6 ∷ []) 1, 34 ∷ 2 ∷ 2 ∷ 0 ∷ 0 ∷ [])
    ∷ (stream_running (stream_alone ((6 ∷ 0 ∷ 0 ∷ []) ∷ (7 ∷ 0 ∷ 1 ∷ []) ∷ (7 ∷ 0 ∷ 1 ∷ []) ∷ [])) (5 ∷ 6 ∷ []) 1, 35 ∷ 2 ∷ 1 ∷ 1 ∷ 5 ∷ [])
    -- an if, both ways; a set keeps 32 bits; a loop downward
    ∷ (array_running (array_alone ((4 ∷ 0 ∷ 0 ∷ []) ∷ (9 ∷ 0 ∷ []) ∷ (1 ∷ 0 ∷ 0 ∷ 8 ∷ []) ∷ (10 ∷ []) ∷ (1 ∷ 0 ∷ 0 ∷ 9 ∷ []) ∷ (11 ∷ []) ∷ (5 ∷ 0 ∷ 1 ∷ []) ∷ [])) (5 ∷ 6 ∷ []) 1, 0 ∷ 0 ∷ 0 ∷ 0 ∷ 8 ∷ [])
    ∷ (array_running (array_alone ((4 ∷ 0 ∷ 0 ∷ []) ∷ (9 ∷ 0 ∷ []) ∷ (1 ∷ 0 ∷ 0 ∷ 8 ∷ []) ∷ (10 ∷ []) ∷ (1 ∷ 0 ∷ 0 ∷ 9 ∷ []) ∷ (11 ∷ []) ∷ (5 ∷ 0 ∷ 1 ∷ []) ∷ [])) (0 ∷ 6 ∷ []) 1, 0 ∷ 0 ∷ 0 ∷ 0 ∷ 9 ∷ [])
    ∷ (array_running (array_alone ((8 ∷ 65536 ∷ 65535 ∷ neg 1 ∷ []) ∷ (1 ∷ 0 ∷ 0 ∷ 3 ∷ neg 65536 ∷ []) ∷ (11 ∷ []) ∷ (5 ∷ 0 ∷ 1 ∷ []) ∷ [])) (5 ∷ 6 ∷ []) 1, 0 ∷ 0 ∷ 0 ∷ 0 ∷ 3 ∷ [])
    ∷ (array_running (array_alone ((8 ∷ 3 ∷ 0 ∷ neg 1 ∷ []) ∷ (1 ∷ 0 ∷ 0 ∷ 0 ∷ 1 ∷ []) ∷ (5 ∷ 0 ∷ 1 ∷ []) ∷ (11 ∷ []) ∷ [])) (5 ∷ 6 ∷ []) 1, 0 ∷ 0 ∷ 0 ∷ 0 ∷ 1 ∷ [])
    -- the other operations, and the least number divided by −1
    ∷ (array_running (reckoner 2) (neg (2 ^ 31) ∷ 1 ∷ []) 1, 0 ∷ 0 ∷ 0 ∷ 0 ∷ 2147483647 ∷ [])
    ∷ (array_running (reckoner 3) (neg 3 ∷ 5 ∷ []) 1, 0 ∷ 0 ∷ 0 ∷ 0 ∷ neg 15 ∷ [])
    ∷ (array_running (reckoner 4) (neg (2 ^ 31) ∷ neg 1 ∷ []) 1, 0 ∷ 0 ∷ 0 ∷ 0 ∷ neg (2 ^ 31) ∷ [])
    ∷ (array_running (reckoner 4) (7 ∷ neg 2 ∷ []) 1, 0 ∷ 0 ∷ 0 ∷ 0 ∷ neg 3 ∷ [])
    -- laying out and putting back, with a step down and arrays of the other side between
    ∷ (laying_out (arrays_alone ((2 ∷ 3 ∷ 2 ∷ 2 ∷ neg 2 ∷ []) ∷ (1 ∷ 4 ∷ 3 ∷ 3 ∷ neg 1 ∷ []) ∷ (2 ∷ 2 ∷ 0 ∷ 1 ∷ 1 ∷ []) ∷ (1 ∷ 2 ∷ 1 ∷ 1 ∷ 1 ∷ []) ∷ [])) (10 ∷ 11 ∷ 12 ∷ 13 ∷ 20 ∷ 21 ∷ []) 4, 13 ∷ 12 ∷ 11 ∷ 21 ∷ [])
    ∷ (back_putting (arrays_alone ((2 ∷ 3 ∷ 2 ∷ 2 ∷ neg 2 ∷ []) ∷ (1 ∷ 4 ∷ 3 ∷ 3 ∷ neg 1 ∷ []) ∷ (2 ∷ 2 ∷ 0 ∷ 1 ∷ 1 ∷ []) ∷ (1 ∷ 2 ∷ 1 ∷ 1 ∷ 1 ∷ []) ∷ [])) (8 ∷ 9 ∷ 7 ∷ []) 5, 9 ∷ 0 ∷ 8 ∷ 7 ∷ 0 ∷ [])
    ∷ []

further : Computes (reading_lines ++ check_lines ++ run_lines)
unfolding kernel_open section neg counted file without input_array output_array array_side stream_side ties smoother smooth with_arrays with_ties dividing_by reckoner lent run_numbers copy_numbers answer programs array_alone stream_alone arrays_alone forked reading_lines check_lines run_lines
further = refl

-- 18 comes from no file: it is what the end of a derivation gives with no statement left and a block open
eighteen : (L : Ledger) → finish (record { registers = 1; buffers = 0; arrays = []; array_program = []; stream_program = []; derivation = [] }) (record { rule = 3; array = 1; stream = 2; opened = in_if L ∷ []; ledger = L }) ≡ stop (record { number = 18; rule = 3; array = 1; stream = 2 })
unfolding kernel_open
eighteen L = refl

-- an else and an end that the innermost block does not ask for: no file gets there either
no_such_block : (l : Loop) (L : Ledger) (os : List Opened) (c : Place) → (at_else [] c ≡ stop 10) × (at_else (in_for l L ∷ os) c ≡ stop 10) × (at_else (in_else L ∷ os) c ≡ stop 10) × (at_end [] c ≡ stop 10) × (at_end (in_if L ∷ os) c ≡ stop 10)
unfolding kernel_open
no_such_block l L os c = (refl, refl, refl, refl, refl)

-- the helper that shows a part of a program
shows : shown (replicate 40 1) (replicate 40 2) 1 1 ≡ replicate 8 1
unfolding shown
shows = refl

shows_stream : shown (replicate 40 1) (replicate 40 2) 7 1 ≡ replicate 8 2
unfolding shown
shows_stream = refl
