-- A result without its error is the side that is there.
use Rattle.std.specs.Prelude.{Result, Ok, Err}
use Rattle.std.specs.Result.{result_ok}
use mathlib.Core.Path.{◌≡◌, refl}
use Rattle.kernel.specs.declared.codes.Side.{Side}
use Rattle.kernel.specs.declared.codes.NoCode.{NoCode}
use Rattle.parts.specs.Arrays.{side_there}

pub kept_side : (t : Result Side NoCode) → result_ok t ≡ side_there t
unfolding side_there
kept_side (Ok s) = refl
kept_side (Err e) = refl
