-- The answers as the job planner gets them: one word of four 16-bit parts, and the parts for each case of each call.
use Rattle.std.specs.Prelude.{ℕ, ◌+◌, ◌*◌, ◌≡◌, List, [], ◌∷◌, ◌++◌}
use Rattle.numbers.specs.Result.{Result, ok, stop}
use Rattle.numbers.specs.Areas.{AllBelow}
use Rattle.kernel.specs.Reading.{Fault}
use Rattle.kernel.specs.Memory.{Ran}
use Rattle.kernel.specs.Answers.{fault_numbers, ending_numbers}

-- parts into a word, lowest first; a part for which no number stands is 0
unfoldable pub packed : List ℕ → ℕ
packed [] = 0
packed (n ∷ rest) = n + 65536 * packed rest

-- a word is made of these parts, and each has room in its 16 bits
abbrev pub Tells : (word : ℕ) → (parts : List ℕ) → Type 0
Tells word parts = (word ≡ packed parts) × AllBelow 65536 parts

-- (check: `check_numbers`. Accepted 0; refused by reading: number, section, record; by the check: number, derivation, array, stream)

-- array run: ended 0, 0; stuck: reason, statement; refused: number, section, record
unfoldable pub array_run_numbers : Result Fault Ran → List ℕ
array_run_numbers (ok r) = ending_numbers r.ending
array_run_numbers (stop f) = fault_numbers f

-- stream run: ended 0, 0, read, written; stuck: reason, statement, read, written; refused: number, section, record
unfoldable pub stream_run_numbers : Result Fault Ran → List ℕ
stream_run_numbers (ok r) = ending_numbers r.ending ++ r.read ∷ r.written ∷ []
stream_run_numbers (stop f) = fault_numbers f

-- lay out, put back: done 0; refused: number, section, record
unfoldable pub move_numbers : Result Fault (List ℕ) → List ℕ
move_numbers (ok m) = 0 ∷ []
move_numbers (stop f) = fault_numbers f
