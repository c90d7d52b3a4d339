-- By how much a counter is changed.
use Rattle.std.specs.Prelude.{ℤ}
use Rattle.check_rows.specs.declared.change.Counter.{Counter}
use Rattle.check_rows.specs.declared.change.Counter.TheVariants.{At, By}

abbrev pub amount : Counter → ℤ
amount (At c) = c
amount (By step) = step
