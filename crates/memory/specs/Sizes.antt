-- What the arrays of a file take up in their memories, by cells or by items.
use Rattle.std.specs.Prelude.{ℕ, suc, ◌+◌, List, [], ◌∷◌, map, get_or, take}
use Rattle.numbers.specs.Lists.{sum}
use Rattle.kernel.specs.File.{Rec, nothing, side_of, only}
use Rattle.parts.specs.declared.Measure.{Measure}
use Rattle.parts.specs.declared.ArrayTable.{ArrayTable}
use Rattle.parts.specs.Arrays.{arrays_of, measure}

-- the arrays of a table
abbrev pub declared : ArrayTable → List Rec
declared t = arrays_of t.file.now t.count

-- the words of a side's memory
abbrev pub total : (side : ℕ) → Measure → (arrays : List Rec) → ℕ
total side m arrays = sum (map (only side (measure m)) arrays)

-- the numbers that v gives to the arrays of a side, added up; n arrays stand before those given
unfoldable pub on_side : (side : ℕ) (v : ℕ → ℕ) (n : ℕ) → List Rec → ℕ
on_side side v n [] = 0
on_side side v n (a ∷ rest) = only side (λ _. v n) a + on_side side v (suc n) rest

-- of array q: how many words it has there, and how many stand before it
abbrev pub size : Measure → (arrays : List Rec) → (q : ℕ) → ℕ
size m arrays q = measure m (get_or arrays q nothing)

abbrev pub base : Measure → (arrays : List Rec) → (q : ℕ) → ℕ
base m arrays q = total (side_of (get_or arrays q nothing)) m (take q arrays)
