-- The code's registers, places and output words, seen as the machine's state; and what a statement's answer comes to.
use Rattle.std.specs.Prelude.{ℕ, List, map, Option, Some, None, Result, Ok, Err}
use Rattle.std.proofs.Math.Option as Math
use Rattle.numbers.specs.Result as Answer
use Rattle.kernel.specs.declared.refusals.Reason.{Reason}
use Rattle.kernel.specs.Named.{reason}
use Rattle.kernel.specs.Machine as Machine
use Rattle.kernel.specs.Machine.{Stuck, stuck}
use Rattle.run_ops.specs.declared.State.{State}

-- a register, unset or a word
unfoldable pub known : Option ℕ → Math.Option ℕ
known None = Math.none
known (Some w) = Math.some w

abbrev pub state : State → (output : List ℕ) → Machine.State
state s ws = record { registers = map known s.registers; places = s.places; output = ws }

-- what it gave, or the reason to stick
unfoldable pub worked : {A : Type 0} → Result A Reason → Answer.Result ℕ A
worked (Ok x) = Answer.ok x
worked (Err why) = Answer.stop (reason why)

-- statement n went on to s, or it stuck there
unfoldable pub stopped : Result Unit Reason → (n : ℕ) → Machine.State → Answer.Result Stuck Machine.State
stopped (Ok t) n s = Answer.ok s
stopped (Err why) n s = Answer.stop (stuck (reason why) n s)
