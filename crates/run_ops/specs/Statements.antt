-- What a statement that holds no block asks for, and what it comes to.
use Rattle.std.specs.Prelude.{ℕ, ◌≤◌, ◌≡◌, length, Result}
use Rattle.kernel.specs.File.{Op}
use Rattle.kernel.specs.Reading.{Scope}
use Rattle.kernel.specs.Machine.{Layout, State, Counters, step}
use Rattle.kernel.specs.Guarantees.{OpFits}
use Rattle.kernel.specs.declared.refusals.Reason.{Reason}
use Rattle.run_ops.specs.States.{stopped}

-- what reading has found of a statement: that its registers and arrays are there, and that its form is small
pub record Performs (o : Op) : Type 0 where
  pub scope : Scope
  pub fits : OpFits scope o
  pub few_registers : scope.registers ≤ 48
  pub few_arrays : length scope.arrays ≤ 8

-- what the code's statement o came to, whatever the statement's number is
abbrev pub Steps : Layout → Counters → Op → (answer : Result Unit Reason) → (before after : State) → Type 0
Steps e c o answer before after = (n : ℕ) → stopped answer n after ≡ step e n o c before
