-- "Numbers given back": for each case of each answer document 01's number and values, and the line that `check` prints.
use Rattle.std.specs.Prelude.{ℕ, zero, suc, ◌+◌, ◌*◌, ◌/◌, ◌%◌, true, false, cond, List, [], ◌∷◌, take, drop, eqb, ltb}
use Rattle.numbers.specs.Result.{Result, ok, stop}
use Rattle.kernel.specs.File.{Kernel}
use Rattle.kernel.specs.Reading.{Fault, fault, read_file}
use Rattle.kernel.specs.Memory.{Ending, ended, sticks}
use Rattle.kernel.specs.Check.{Refusal, check_kernel}

-- ---- the check of a file

pub data Checked : Type 0 where
  accepted : Checked
  unread : Fault → Checked
  refused : Refusal → Checked

unfoldable pub checked : Result Refusal (Unit {0}) → Checked
checked (ok t) = accepted
checked (stop r) = refused r

unfoldable pub checked_file : Result Fault Kernel → Checked
checked_file (ok K) = checked (check_kernel K)
checked_file (stop f) = unread f

unfoldable pub check : (file : List ℕ) → Checked
check file = checked_file (read_file file)

-- ---- numbers: 0 stands for accepted, ended and done

unfoldable pub fault_numbers : Fault → List ℕ
fault_numbers (fault number section place) = number ∷ section ∷ place ∷ []

unfoldable pub refusal_numbers : Refusal → List ℕ
refusal_numbers r = r.number ∷ r.rule ∷ r.array ∷ r.stream ∷ []

unfoldable pub check_numbers : Checked → List ℕ
check_numbers accepted = 0 ∷ []
check_numbers (unread f) = fault_numbers f
check_numbers (refused r) = refusal_numbers r

unfoldable pub ending_numbers : Ending → List ℕ
ending_numbers ended = 0 ∷ 0 ∷ []
ending_numbers (sticks reason n) = reason ∷ n ∷ []

-- ---- the line: "`accepted`, or `read N section record`, or `check N derivation array stream`"

-- a number's decimal digits, at most f of them, before what follows
unfoldable pub decimal : (f n : ℕ) → (after : List ℕ) → List ℕ
decimal zero n after = after
decimal (suc f) n after = elim (ltb n 10) [ true ↦ (48 + n) ∷ after | false ↦ decimal f (n / 10) ((48 + n % 10) ∷ after) ]

-- each number after a space, then the line's end
unfoldable pub spaced : List ℕ → List ℕ
spaced [] = 10 ∷ []
spaced (n ∷ ns) = 32 ∷ decimal (suc n) n (spaced ns)

-- accepted; read ..; check ..
unfoldable pub line : Checked → List ℕ
line accepted = 97 ∷ 99 ∷ 99 ∷ 101 ∷ 112 ∷ 116 ∷ 101 ∷ 100 ∷ 10 ∷ []
line (unread f) = 114 ∷ 101 ∷ 97 ∷ 100 ∷ spaced (fault_numbers f)
line (refused r) = 99 ∷ 104 ∷ 101 ∷ 99 ∷ 107 ∷ spaced (refusal_numbers r)

-- "of which it takes at most the first 49,436 bytes"
unfoldable pub printed : (standard_input : List ℕ) → List ℕ
printed standard_input = line (check (take 49436 standard_input))

-- ---- "shows that program from that record on, or an empty part when past its end": 1 array, another number stream

unfoldable pub shown : (array_program stream_program : List ℕ) → (choice n : ℕ) → List ℕ
shown array_program stream_program choice n = drop (32 * n) (cond (eqb choice 1) array_program stream_program)
