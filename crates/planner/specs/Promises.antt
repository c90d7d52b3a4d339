-- What the five calls promise the job planner: for a file, the area that is read and the area that is written, as it was before, the word that
-- is answered and the whole content of the written area afterwards.
use Rattle.std.specs.Prelude.{ℕ, ◌≡◌, List}
use Rattle.kernel.specs.Memory as Memory
use Rattle.kernel.specs.Memory.{afterwards}
use Rattle.kernel.specs.Answers.{check, check_numbers}
use Rattle.planner.specs.Words.{Tells, array_run_numbers, stream_run_numbers, move_numbers}

abbrev pub CheckCall : (file : List ℕ) → (word : ℕ) → Type 0
CheckCall file word = Tells word (check_numbers (check file))

abbrev pub ArrayRunCall : (file input before : List ℕ) → (word : ℕ) → (after : List ℕ) → Type 0
ArrayRunCall file input before word after =
    let r = Memory.array_run file input before in
    Tells word (array_run_numbers r) × (after ≡ afterwards (λ m. m.memory) before r)

abbrev pub StreamRunCall : (file input before : List ℕ) → (word : ℕ) → (after : List ℕ) → Type 0
StreamRunCall file input before word after =
    let r = Memory.stream_run file input before in
    Tells word (stream_run_numbers r) × (after ≡ afterwards (λ m. m.memory) before r)

abbrev pub LayOutCall : (file arrays before : List ℕ) → (word : ℕ) → (after : List ℕ) → Type 0
LayOutCall file arrays before word after =
    let r = Memory.lay_out file arrays before in
    Tells word (move_numbers r) × (after ≡ afterwards (λ m. m) before r)

abbrev pub PutBackCall : (file streams before : List ℕ) → (word : ℕ) → (after : List ℕ) → Type 0
PutBackCall file streams before word after =
    let r = Memory.putting_back file streams before in
    Tells word (move_numbers r) × (after ≡ afterwards (λ m. m) before r)
