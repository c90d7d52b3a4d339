-- Tests of the code against those of the definitions.
use mathlib.Core.Path.{◌≡◌, sym, ◌∙◌}
use mathlib.Core.Bool.{Bool, true, false}

-- a test t as the code answers it, and whether the code goes on
pub refused : {r t : Bool} → r ≡ t → r ≡ false → t ≡ false
refused e h = sym e ∙ h

pub passed : {r t : Bool} → r ≡ t → r ≡ true → t ≡ true
passed e h = sym e ∙ h
