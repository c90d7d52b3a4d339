-- Demand 3: an accepted file's two programs agree.
use Rattle.std.specs.Prelude.{◌≡◌, ◌⊎◌, ◌↔◌, List, ℕ, ◌*◌, length}
use Rattle.numbers.specs.Result.{ok}
use Rattle.numbers.specs.Words.{words}
use Rattle.kernel.specs.Numbers.{unset, zero_divisor, index_outside, stream_empty, stream_full}
use Rattle.kernel.specs.File.{Kernel, input, output, length_of, count_of}
use Rattle.kernel.specs.Reading.{read_file}
use Rattle.kernel.specs.Memory.{total, laid_out, put_back, Ending, ended, sticks, Ran, array_ran, stream_ran}
use Rattle.kernel.specs.Answers.{accepted, check}
use Rattle.kernel.specs.Measured.{smooth}

-- "the same reason (31 or 32)": an unset register, a zero divisor
abbrev pub Reason : ℕ → Type 0
Reason reason = (reason ≡ unset) ⊎ (reason ≡ zero_divisor)

-- one run sticks for such a reason, and the other for the same
abbrev pub SticksAlike : (one other : Ending) → Type 0
SticksAlike one other = (reason n : ℕ) → one ≡ sticks reason n → Reason reason × ((m : ℕ) × (other ≡ sticks reason m))

-- what an array run and a stream run have in common
pub record Agree (K : Kernel) (array stream : Ran) : Type 0 where
  -- "the array run ends exactly when the stream run ends"
  pub end_alike : array.ending ≡ ended ↔ stream.ending ≡ ended
  -- "then every input stream is empty, every output stream full"
  pub all_read : stream.ending ≡ ended → stream.read ≡ total input count_of K
  pub all_written : stream.ending ≡ ended → stream.written ≡ total output count_of K
  -- "If either sticks, both stick for the same reason"
  pub array_sticks : SticksAlike array.ending stream.ending
  pub stream_sticks : SticksAlike stream.ending array.ending
  -- "the outputs put back equal the array run's output memory", ended or stuck
  pub outputs : put_back K stream.memory ≡ array.memory

-- "For an accepted file and input memory of the declared size, streams laid out in the declared order"
abbrev pub Agreement : Type 0
Agreement = (file memory : List ℕ) (K : Kernel) → read_file file ≡ ok K → check file ≡ accepted → length memory ≡ 4 * total input length_of K
    → Agree K (array_ran K (words memory)) (stream_ran K (laid_out K (words memory)))

-- ---- what follows from it: of an accepted file's runs no load or store is outside its array, and no stream runs dry or over

pub record NeverOutside (array stream : Ran) : Type 0 where
  pub inside : (n : ℕ) → array.ending ≡ sticks index_outside n → ⊥
  pub not_dry : (n : ℕ) → stream.ending ≡ sticks stream_empty n → ⊥
  pub not_over : (n : ℕ) → stream.ending ≡ sticks stream_full n → ⊥

abbrev pub Safety : Type 0
Safety = (file memory : List ℕ) (K : Kernel) → read_file file ≡ ok K → check file ≡ accepted → length memory ≡ 4 * total input length_of K
    → NeverOutside (array_ran K (words memory)) (stream_ran K (laid_out K (words memory)))

-- the smoother of "Measured by hand", on every input memory of its size
abbrev pub SmootherAgrees : Type 0
SmootherAgrees = (memory : List ℕ) → length memory ≡ 16
    → (K : Kernel) × (read_file smooth ≡ ok K) × Agree K (array_ran K (words memory)) (stream_ran K (laid_out K (words memory)))
