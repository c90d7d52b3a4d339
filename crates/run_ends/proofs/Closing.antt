-- Which codes close a block: an else's and an end's.
use Prim.Native.Nat.{◌≤◌}
use mathlib.Core.Path.{◌≡◌, refl}
use mathlib.Core.Logic.{◌⊎◌, inl, inr}
use native.Mathlib.Omega.{arith}
use Rattle.kernel.specs.Named.{code}
use Rattle.kernel.specs.declared.codes.Code.{Code}
use Rattle.kernel.specs.declared.codes.Code.TheVariants.{Set, Copy, Work, Load, Store, Read, Write, For, If, Else, End}

pub closes : {c : Code} → (c ≡ Else) ⊎ (c ≡ End) → 10 ≤ code c
unfolding code
closes (inl e) = rw e (omega arith)
closes (inr e) = rw e (omega arith)

pub closed_by : (c : Code) → 10 ≤ code c → (c ≡ Else → ⊥) → (c ≡ End → ⊥) → ⊥
unfolding code
closed_by Set h else end = omega arith
closed_by Copy h else end = omega arith
closed_by Work h else end = omega arith
closed_by Load h else end = omega arith
closed_by Store h else end = omega arith
closed_by Read h else end = omega arith
closed_by Write h else end = omega arith
closed_by For h else end = omega arith
closed_by If h else end = omega arith
closed_by Else h else end = else refl
closed_by End h else end = end refl
