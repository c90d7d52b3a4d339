-- The three demands, of what this code answers and leaves in lent memory: the promises of the calls, and no more, are what they speak of. That
-- every call takes every input and ends is in the contracts themselves: the five functions that promise this have no `requires`.
use Rattle.std.specs.Prelude.{ℕ, ◌*◌, ◌≡◌, ◌↔◌, List, length, Result, Ok, Err}
use Rattle.numbers.specs.Result.{ok}
use Rattle.numbers.specs.Areas.{AllBelow}
use Rattle.kernel.specs.File.{Kernel, input, output, length_of, count_of}
use Rattle.kernel.specs.Reading.{read_file}
use Rattle.kernel.specs.Rules.{Derived}
use Rattle.kernel.specs.Memory.{total, ended}
use Rattle.agreement.specs.Agreement.{SticksAlike}
use Rattle.agreement.specs.Exactness.{FirstBad}
use Rattle.run_calls.specs.declared.Ran.{Ran}
use Rattle.run_calls.specs.declared.NotRun.{NotRun}
use Rattle.run_calls.specs.View.{Answer, answer}
use Rattle.run_calls.specs.Promises.{ArrayRun, StreamRun, LayOut, PutBack}
use Rattle.check_file.specs.declared.Refusal.{Refusal}
use Rattle.check_file.specs.declared.NotAccepted.{NotAccepted}
use Rattle.check_file.specs.declared.NotAccepted.TheVariants.{Refused}
use Rattle.check_file.specs.View.{refusal}
use Rattle.check_file.specs.Promises.{Checks}

-- ---- demand 1: lent memory

-- which answers refuse
abbrev pub Refuses : {A : Type 0} → Result A NotRun → Type 0
Refuses a = (why : NotRun) × (a ≡ Err why)

-- of a call's promise, for a file, the memory read, the memory written as it was before, the answer, and the memory afterwards
pub record Keeps {A : Type 0} (Call : (file given before : List ℕ) → A → (after : List ℕ) → Type 0) (Refusal : A → Type 0) : Type 0 where
  -- "a refusal writes nothing"
  pub writes_nothing : (file given before : List ℕ) (a : A) (after : List ℕ) → Call file given before a after → Refusal a → after ≡ before
  -- "Old contents of lent output memory never change a result"
  pub old_contents : (file given before other : List ℕ) (a b : A) (x y : List ℕ) → length before ≡ length other
      → Call file given before a x → Call file given other b y → (a ≡ b) × ((Refusal a → ⊥) → x ≡ y)

pub record Demand1 : Type 0 where
  pub array_run : Keeps ArrayRun Refuses
  pub stream_run : Keeps StreamRun Refuses
  pub laying_out : Keeps LayOut Refuses
  pub putting_back : Keeps PutBack Refuses

-- ---- demand 2: the check

pub record Judges (K : Kernel) (checked : Result Unit NotAccepted) : Type 0 where
  -- "accepts exactly the files whose derivation follows document 01's rules"
  pub exactly : checked ≡ Ok tt ↔ Derived K
  -- "otherwise it names the first bad rule and that rule's lowest refusal"
  pub first_bad : (r : Refusal) → checked ≡ Err (Refused r) → FirstBad K (refusal r)

abbrev pub Demand2 : Type 0
Demand2 = (file : List ℕ) (checked : Result Unit NotAccepted) → Checks file checked → (K : Kernel) → read_file file ≡ ok K → Judges K checked

-- ---- demand 3: the two runs

-- a job: its file, the lent memories before each call and after it, and the answers. The array run reads `memory` and leaves `outputs`; laying out
-- copies `memory` into `streams`; the stream run reads these and leaves `items`; putting back copies those into `back`.
pub record Job : Type 0 where
  pub file : List ℕ
  pub checked : Result Unit NotAccepted
  pub memory : List ℕ
  pub outputs_before : List ℕ
  pub array : Result Ran NotRun
  pub outputs : List ℕ
  pub streams_before : List ℕ
  pub laid : Result Unit NotRun
  pub streams : List ℕ
  pub items_before : List ℕ
  pub stream : Result Ran NotRun
  pub items : List ℕ
  pub back_before : List ℕ
  pub placed : Result Unit NotRun
  pub back : List ℕ

-- the five calls keep their promises
pub record Called (j : Job) : Type 0 where
  pub check : Checks j.file j.checked
  pub array_run : ArrayRun j.file j.memory j.outputs_before j.array j.outputs
  pub laying_out : LayOut j.file j.memory j.streams_before j.laid j.streams
  pub stream_run : StreamRun j.file j.streams j.items_before j.stream j.items
  pub putting_back : PutBack j.file j.items j.back_before j.placed j.back

-- the memories lent have the declared sizes, and the input is bytes; what was in the written ones before is anything
pub record Sized (K : Kernel) (j : Job) : Type 0 where
  pub memory : length j.memory ≡ 4 * total input length_of K
  pub memory_bytes : AllBelow 256 j.memory
  pub outputs : length j.outputs_before ≡ 4 * total output length_of K
  pub streams : length j.streams_before ≡ 4 * total input count_of K
  pub items : length j.items_before ≡ 4 * total output count_of K
  pub back : length j.back_before ≡ 4 * total output length_of K

-- what the job then comes to
pub record Agreed (K : Kernel) (j : Job) (array stream : Answer) : Type 0 where
  -- no call is refused
  pub array_answer : answer j.array ≡ ok array
  pub stream_answer : answer j.stream ≡ ok stream
  pub all_laid : j.laid ≡ Ok tt
  pub all_placed : j.placed ≡ Ok tt
  -- "the array run ends exactly when the stream run ends"
  pub end_alike : array.ending ≡ ended ↔ stream.ending ≡ ended
  -- "then every input stream is empty, every output stream full"
  pub all_read : stream.ending ≡ ended → stream.read ≡ total input count_of K
  pub all_written : stream.ending ≡ ended → stream.written ≡ total output count_of K
  -- "If either sticks, both stick for the same reason (31 or 32)"
  pub array_sticks : SticksAlike array.ending stream.ending
  pub stream_sticks : SticksAlike stream.ending array.ending
  -- "the outputs put back equal the array run's output memory", ended or stuck
  pub outputs : j.back ≡ j.outputs

-- for any file that the check accepts
abbrev pub Demand3 : Type 0
Demand3 = (j : Job) → Called j → j.checked ≡ Ok tt → (K : Kernel) → read_file j.file ≡ ok K → Sized K j → (array : Answer) × (stream : Answer) × Agreed K j array stream

-- ---- all three

pub record Demands : Type 0 where
  pub first : Demand1
  pub second : Demand2
  pub third : Demand3
