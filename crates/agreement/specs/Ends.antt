-- Demand 1: every call ends. Reading, check and runs are functions, so this says what is not plain from that.
use Rattle.std.specs.Prelude.{◌≡◌, cond, List, ℕ, zero, suc, ◌+◌, ◌*◌, ◌<◌, ◌≤◌, eqb, length}
use Rattle.numbers.specs.Result.{Result, ok, stop}
use Rattle.kernel.specs.File.{Rec, Kernel, output, length_of, count_of}
use Rattle.kernel.specs.Reading.{read_file}
use Rattle.kernel.specs.Blocks.{Block, stops, plain, loop, branch}
use Rattle.kernel.specs.Machine.{Layout, State, Counters, get, Stuck, step, choose, in_pass, repeat, run}
use Rattle.kernel.specs.Trees.{tree}
use Rattle.kernel.specs.Memory.{total, outside, array_ran, stream_ran}
use Rattle.kernel.specs.Derivation.{beginning}
use Rattle.kernel.specs.Check.{walk, check_kernel}
use Rattle.kernel.specs.Answers.{decimal}

-- ---- enough rules for the check, enough digits for the line: more change nothing

abbrev pub EnoughRules : Type 0
EnoughRules = (K : Kernel) (n : ℕ) → length K.derivation ≤ n → walk K n (beginning K) ≡ check_kernel K

abbrev pub EnoughDigits : Type 0
EnoughDigits = (n f : ℕ) (after : List ℕ) → n < f → decimal f n after ≡ decimal (suc n) n after

-- ---- a run keeps the length of its memory

pub record LengthsKept (K : Kernel) (memory : List ℕ) : Type 0 where
  pub array_run : length (array_ran K memory).memory ≡ total output length_of K
  pub stream_run : length (stream_ran K memory).memory ≡ total output count_of K

-- ---- how many statements a run carries out: each once, a for once when entered, an end once a pass

unfoldable pub after : Result Stuck State → (State → ℕ) → ℕ
after (ok s) n = n s
after (stop e) n = 0

unfoldable pub pass_steps : (ℕ → State → Result Stuck State) → (ℕ → State → ℕ) → (n m : ℕ) → State → ℕ
pass_steps pass steps zero m s = 0
pass_steps pass steps (suc n) m s = steps m s + after (pass m s) (λ s. suc (pass_steps pass steps n (m + 1) s))

unfoldable pub chosen_steps : Result ℕ ℕ → (then other : ℕ) → ℕ
chosen_steps (ok w) then other = cond (eqb w 0) other then
chosen_steps (stop e) then other = 0

unfoldable pub steps : Layout → Block → Counters → State → ℕ
steps e (stops n) c s = 0
steps e (plain n o rest) c s = suc (after (step e n o c s) (λ s. steps e rest c s))
steps e (loop n l body rest) c s =
    suc (pass_steps (λ m s. run e body (in_pass l c m) s) (λ m s. steps e body (in_pass l c m) s) l.passes 0 s
    + after (repeat (λ m s. run e body (in_pass l c m) s) l.passes 0 s) (λ s. steps e rest c s))
steps e (branch n p then other rest) c s =
    suc (chosen_steps (get p s) (steps e then c s) (steps e other c s)
    + after (choose n p (λ s. run e then c s) (λ s. run e other c s) s) (λ s. steps e rest c s))

-- what the loops of a block allow
unfoldable pub allowed : Block → ℕ
allowed (stops n) = 0
allowed (plain n o rest) = suc (allowed rest)
allowed (loop n l body rest) = suc (l.passes * suc (allowed body) + allowed rest)
allowed (branch n p then other rest) = suc (allowed then + allowed other + allowed rest)

-- no more than they allow, and that is at most 65,536 times each statement of the program
pub record FewSteps (K : Kernel) (program : List Rec) : Type 0 where
  pub as_allowed : (e : Layout) (s : State) → steps e (tree program) outside s ≤ allowed (tree program)
  pub each_few : allowed (tree program) ≤ 65536 * length program

-- ---- the whole

pub record Ends : Type 0 where
  pub enough_rules : EnoughRules
  pub enough_digits : EnoughDigits
  pub lengths_kept : (K : Kernel) (memory : List ℕ) → LengthsKept K memory
  pub few_array_steps : (file : List ℕ) (K : Kernel) → read_file file ≡ ok K → FewSteps K K.array_program
  pub few_stream_steps : (file : List ℕ) (K : Kernel) → read_file file ≡ ok K → FewSteps K K.stream_program
