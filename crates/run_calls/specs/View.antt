-- The answers of the code, seen as what the definitions give; and the program and the run over the cells or the items of a kernel.
use Rattle.std.specs.Prelude.{ℕ, ◌*◌, Bool, ◌&&◌, List, eqb, length, Result, Ok, Err}
use Rattle.numbers.specs.Result as Answers
use Rattle.numbers.specs.Result.{ok, stop, ◌>>=◌, need}
use Rattle.numbers.specs.Words.{words}
use Rattle.kernel.specs.Numbers.{wrong_memory}
use Rattle.kernel.specs.Named.{reason, unread, side}
use Rattle.kernel.specs.File.{Rec, Kernel, input, output}
use Rattle.kernel.specs.Reading.{Fault, fault}
use Rattle.kernel.specs.Trees.{tree}
use Rattle.kernel.specs.Machine.{run}
use Rattle.kernel.specs.Memory as Memory
use Rattle.kernel.specs.Memory.{Ending, ended, sticks, total, layout, outside, start}
use Rattle.parts.specs.declared.Kernel as Code
use Rattle.parts.specs.declared.Measure.{Measure}
use Rattle.parts.specs.declared.Measure.TheVariants.{Cells, Items}
use Rattle.parts.specs.Parts.{kernel}
use Rattle.parts.specs.Arrays.{measure}
use Rattle.memory.specs.Sizes as Sizes
use Rattle.run_blocks.specs.declared.Stuck.{Stuck}
use Rattle.run_calls.specs.declared.Ran.{Ran}
use Rattle.run_calls.specs.declared.NotRun.{NotRun}
use Rattle.run_calls.specs.declared.NotRun.TheVariants.{Unread, WrongMemory}
use Rattle.run_calls.specs.declared.Area.{Area}

-- the kernel that was read
abbrev pub kernel_of : Code.Kernel → Kernel
kernel_of k = kernel k.file.now k.counts

-- ---- answers

-- what a run answers besides the memory that it leaves
pub record Answer : Type 0 where
  pub ending : Ending
  pub read : ℕ
  pub written : ℕ

unfoldable pub answer_of : Answers.Result Fault Memory.Ran → Answers.Result Fault Answer
answer_of (ok r) = ok (record { ending = r.ending; read = r.read; written = r.written })
answer_of (stop f) = stop f

unfoldable pub ending : Result Unit Stuck → Ending
ending (Ok t) = ended
ending (Err s) = sticks (reason s.reason) s.at

unfoldable pub refusal : NotRun → Fault
refusal (Unread u) = unread u
refusal WrongMemory = fault wrong_memory 0 0

unfoldable pub answer : Result Ran NotRun → Answers.Result Fault Answer
answer (Ok r) = ok (record { ending = ending r.ending; read = r.read; written = r.written })
answer (Err e) = stop (refusal e)

-- laying out and putting back answer only whether they were done
unfoldable pub finished : Answers.Result Fault (List ℕ) → Answers.Result Fault (Unit {0})
finished (ok m) = ok tt
finished (stop f) = stop f

unfoldable pub done : Result Unit NotRun → Answers.Result Fault (Unit {0})
done (Ok t) = ok tt
done (Err e) = stop (refusal e)

-- ---- calls on a kernel

-- an area is as long as the cells or items of its side in these arrays
abbrev pub right_length : (arrays : List Rec) → Area → Bool
right_length arrays a = eqb a.bytes (4 * Sizes.total (side a.side) a.measure arrays)

-- the call on a kernel that was read: the two lengths, then what it makes of the first area's words
unfoldable pub on_kernel : {A : Type 0} → (from to : Kernel → ℕ) → (Kernel → List ℕ → A) → Kernel → (first second : List ℕ) → Answers.Result Fault A
on_kernel from to makes K first second = do
  _ ← need (fault wrong_memory 0 0) (eqb (length first) (4 * from K) && eqb (length second) (4 * to K))
  ok (makes K (words first))

-- the program over cells is the array program, that over items the stream program
unfoldable pub program : Measure → Kernel → List Rec
program Cells K = K.array_program
program Items K = K.stream_program

-- the run of a program over the cells or the items of a kernel's arrays
unfoldable pub program_ran : Measure → (program : List Rec) → Kernel → List ℕ → Memory.Ran
program_ran m program K memory = Memory.ran K (run (layout (measure m) K memory) (tree program) outside (start (measure m) K))

-- of the kernel's own program; and that with the two lengths
abbrev pub ran : Measure → Kernel → (input : List ℕ) → Memory.Ran
ran m K first = program_ran m (program m K) K (words first)

abbrev pub run_of : Measure → Kernel → (input before : List ℕ) → Answers.Result Fault Memory.Ran
run_of m K first before = on_kernel (total input (measure m)) (total output (measure m)) (program_ran m (program m K)) K first before
