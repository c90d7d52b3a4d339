use Prim.Native.Nat.{ℕ, ◌+◌, ◌*◌, ◌<◌, ◌≤◌}
use mathlib.Core.Path.{◌≡◌}
use lib.ListN.{drop}
use Rattle.kernel.specs.Named.{side}
use Rattle.parts.specs.Arrays.{arrays_of}
use Rattle.memory.specs.Sizes.{on_side}
use Rattle.memory.proofs.summed.Given as goal

abbrev pub invariant-loop-j : goal.invariant-loop-j
invariant-loop-j g l =
    (l.sum ≤ 4294967295 * l.j)
    × ((v : ℕ → ℕ) → ((j r : ℕ) → j < l.fn.n → goal.F-post g l.fn.of j r → r ≡ v j)
    → l.sum + on_side (side l.side) v l.j (drop l.j (arrays_of l.arrays.file.now l.n)) ≡ on_side (side l.side) v 0 (arrays_of l.arrays.file.now l.n))
