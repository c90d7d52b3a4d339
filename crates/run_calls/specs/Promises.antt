-- What the four calls promise: for a file, the lent memory that is read and the lent memory that is written, as it was before, the answer and the
-- whole content of the written memory afterwards.
use Rattle.std.specs.Prelude.{ℕ, ◌≡◌, List, Result}
use Rattle.numbers.specs.Result as Answers
use Rattle.kernel.specs.Reading.{Fault}
use Rattle.kernel.specs.Memory as Memory
use Rattle.kernel.specs.Memory.{afterwards}
use Rattle.run_calls.specs.declared.Ran.{Ran}
use Rattle.run_calls.specs.declared.NotRun.{NotRun}
use Rattle.run_calls.specs.View.{answer_of, answer, finished, done}

-- a run comes to what its definition gives
abbrev pub Runs : Answers.Result Fault Memory.Ran → (before : List ℕ) → Result Ran NotRun → (after : List ℕ) → Type 0
Runs r before a after = (answer a ≡ answer_of r) × (after ≡ afterwards (λ m. m.memory) before r)

-- so does laying out or putting back
abbrev pub Moves : Answers.Result Fault (List ℕ) → (before : List ℕ) → Result Unit NotRun → (after : List ℕ) → Type 0
Moves r before a after = (done a ≡ finished r) × (after ≡ afterwards (λ m. m) before r)

abbrev pub ArrayRun : (file input before : List ℕ) → Result Ran NotRun → (after : List ℕ) → Type 0
ArrayRun file input before a after = Runs (Memory.array_run file input before) before a after

abbrev pub StreamRun : (file input before : List ℕ) → Result Ran NotRun → (after : List ℕ) → Type 0
StreamRun file input before a after = Runs (Memory.stream_run file input before) before a after

abbrev pub LayOut : (file arrays before : List ℕ) → Result Unit NotRun → (after : List ℕ) → Type 0
LayOut file arrays before a after = Moves (Memory.lay_out file arrays before) before a after

abbrev pub PutBack : (file streams before : List ℕ) → Result Unit NotRun → (after : List ℕ) → Type 0
PutBack file streams before a after = Moves (Memory.putting_back file streams before) before a after
