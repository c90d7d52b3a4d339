-- The code's tables and areas, seen as what surrounds a statement.
use Rattle.std.specs.Prelude.{ℕ, ◌+◌, ◌≡◌, List, get_or, ℤ}
use Rattle.numbers.specs.Result.{Result, ok, ◌>>=◌}
use Rattle.numbers.specs.Words.{words, bytes}
use Rattle.kernel.specs.Machine as Machine
use Rattle.kernel.specs.Machine.{cell_number}
use Rattle.run_ops.specs.declared.Layout.{Layout}

-- sizes and bases of the arrays by their numbers, and the input's words
abbrev pub layout : Layout → Machine.Layout
layout l = record { size = λ q. get_or l.sizes q 0; base = λ q. get_or l.bases q 0; input = words l.input.now }

-- where in its side's memory the cell of array q is that a number names, or the reason to stick
unfoldable pub cell_at : Machine.Layout → (q reason : ℕ) → ℤ → Result ℕ ℕ
cell_at e q reason z = do
  i ← cell_number reason (e.size q) z
  ok (e.base q + i)

-- an area that is nothing but its words
abbrev pub Whole : List ℕ → Type 0
Whole area = bytes (words area) ≡ area
