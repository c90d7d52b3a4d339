-- Array memory and stream memory; laying out and putting back; what the runs answer and leave.
use Rattle.std.specs.Prelude.{ℕ, zero, suc, ◌+◌, ◌*◌, ◌&&◌, List, [], ◌∷◌, ◌++◌, map, length, get_or, take, set, replicate, eqb, pos, nat_abs}
use Rattle.std.proofs.Math.Option.{none}
use Rattle.numbers.specs.Result.{Result, ok, stop, ◌>>=◌, need}
use Rattle.numbers.specs.Lists.{sum}
use Rattle.numbers.specs.Words.{words, bytes}
use Rattle.kernel.specs.Numbers.{wrong_memory}
use Rattle.kernel.specs.File.{Rec, Kernel, input, output, side_of, only, length_of, count_of, index, array}
use Rattle.kernel.specs.Reading.{Fault, fault, read_file}
use Rattle.kernel.specs.Machine.{Layout, State, Counters, Stuck, stuck, run}
use Rattle.kernel.specs.Trees.{tree}

-- "Array memory is the input (or output) arrays end to end in file order": with `length_of` for n the cells of a side's arrays
-- before array q, and all of them; "Stream memory is their items likewise": with `count_of` the items
unfoldable pub before : (side : ℕ) → (n : Rec → ℕ) → Kernel → (q : ℕ) → ℕ
before side n K q = sum (map (only side n) (take q K.arrays))

unfoldable pub total : (side : ℕ) → (n : Rec → ℕ) → Kernel → ℕ
total side n K = sum (map (only side n) K.arrays)

-- ---- laying out and putting back

-- f m, f (m + 1), and so on, n of them
unfoldable pub listed : (ℕ → ℕ) → (m n : ℕ) → List ℕ
listed f m zero = []
listed f m (suc n) = f m ∷ listed f (suc m) n

-- the cell of its side's array memory for each item of a side's stream memory; b cells stand before the arrays given.
-- (In a file that reads every index of an order is a natural number.)
unfoldable pub cells : (side b : ℕ) → List Rec → List ℕ
cells side b [] = []
cells side b (a ∷ rest) =
    listed (λ n. b + nat_abs (index a n)) 0 (only side count_of a) ++ cells side (b + only side length_of a) rest

-- "copies each input array's elements at first, first + step, .. into its stream"
unfoldable pub laid_out : Kernel → List ℕ → List ℕ
laid_out K m = map (λ c. get_or m c 0) (cells input 0 K.arrays)

-- each item at its cell
unfoldable pub placed : (cells items m : List ℕ) → List ℕ
placed [] ws m = m
placed (c ∷ cs) [] m = m
placed (c ∷ cs) (w ∷ ws) m = placed cs ws (set m c w)

-- "clears the output memory and places each output item at its index"
unfoldable pub put_back : Kernel → List ℕ → List ℕ
put_back K m = placed (cells output 0 K.arrays) m (replicate (total output length_of K) 0)

-- ---- runs

-- "A run answers ended or stuck (reason, statement number); the stream run also answers how many items were read and how many
-- written. Output memory afterwards holds what was written, and 0 elsewhere, ended or stuck"
pub data Ending : Type 0 where
  ended : Ending
  sticks : (reason n : ℕ) → Ending

pub record Ran : Type 0 where
  pub ending : Ending
  pub read : ℕ
  pub written : ℕ
  pub memory : List ℕ

-- the places of a side's streams, added up; n is the number of arrays before those given
unfoldable pub moved : (side n : ℕ) → List Rec → State → ℕ
moved side n [] s = 0
moved side n (a ∷ rest) s = only side (λ _. get_or s.places n 0) a + moved side (suc n) rest s

unfoldable pub ran : Kernel → Result Stuck State → Ran
ran K (ok s) = record {
  ending = ended;
  read = moved input 0 K.arrays s;
  written = moved output 0 K.arrays s;
  memory = s.output;
}
ran K (stop (stuck reason n s)) = record {
  ending = sticks reason n;
  read = moved input 0 K.arrays s;
  written = moved output 0 K.arrays s;
  memory = s.output;
}

-- the arrays with their cells, or with their items, over an input memory
unfoldable pub layout : (n : Rec → ℕ) → Kernel → List ℕ → Layout
layout n K m = record {
  size = λ q. n (array K q);
  base = λ q. before (side_of (array K q)) n K q;
  input = m;
}

-- "All registers start unset; all output cells and items start 0": as many registers and places as a file may have
unfoldable pub start : (n : Rec → ℕ) → Kernel → State
start n K = record { registers = replicate 48 none; places = replicate 8 0; output = replicate (total output n K) 0 }

abbrev pub outside : Counters
outside = record { level = 0; values = replicate 4 (pos 0) }

unfoldable pub array_ran : Kernel → List ℕ → Ran
array_ran K m = ran K (run (layout length_of K m) (tree K.array_program) outside (start length_of K))

unfoldable pub stream_ran : Kernel → List ℕ → Ran
stream_ran K m = ran K (run (layout count_of K m) (tree K.stream_program) outside (start count_of K))

-- ---- the calls: "read first, then give 21, and run unchecked files as well"

-- a call on a file and two lent byte areas, of which the first has `from` words and the second `to`, with what it makes of the kernel and the
-- first area's words: "any length but four bytes for each number gives 21"
unfoldable pub on_areas : {A : Type 0} → (from to : Kernel → ℕ) → (Kernel → List ℕ → A) → (file first second : List ℕ) → Result Fault A
on_areas from to makes file first second = do
  K ← read_file file
  _ ← need (fault wrong_memory 0 0) (eqb (length first) (4 * from K) && eqb (length second) (4 * to K))
  ok (makes K (words first))

unfoldable pub array_run : (file first second : List ℕ) → Result Fault Ran
array_run = on_areas (total input length_of) (total output length_of) array_ran

unfoldable pub stream_run : (file first second : List ℕ) → Result Fault Ran
stream_run = on_areas (total input count_of) (total output count_of) stream_ran

unfoldable pub lay_out : (file first second : List ℕ) → Result Fault (List ℕ)
lay_out = on_areas (total input length_of) (total input count_of) laid_out

unfoldable pub putting_back : (file first second : List ℕ) → Result Fault (List ℕ)
putting_back = on_areas (total output count_of) (total output length_of) put_back

-- the second area afterwards: the memory made, or "A refusal leaves lent memory untouched"
unfoldable pub afterwards : {A : Type 0} → (A → List ℕ) → (second : List ℕ) → Result Fault A → List ℕ
afterwards memory second (ok a) = bytes (memory a)
afterwards memory second (stop e) = second
