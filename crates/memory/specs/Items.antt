-- Items carried between an array memory and a stream memory, over byte areas.
use Rattle.std.specs.Prelude.{ℕ, suc, ◌+◌, ◌*◌, ◌<◌, ◌≤◌, ◌≡◌, cond, List, [], ◌∷◌, map, eqb, ℤ, pos, nat_abs, ◌+ℤ◌, ◌*ℤ◌, length, get_or, replicate}
use Rattle.numbers.specs.Bounds.{Small}
use Rattle.numbers.specs.Areas.{word, put_word}
use Rattle.kernel.specs.File.{Rec, input, output}
use Rattle.kernel.specs.Memory.{cells, placed}
use Rattle.kernel.specs.Guarantees.{Inside}
use Rattle.parts.specs.declared.Measure.TheVariants.{Cells, Items}
use Rattle.memory.specs.declared.Order.{Order}
use Rattle.memory.specs.Sizes.{total}

-- the index of an order's item i; it lies inside an array
abbrev pub nth : (first step : ℤ) (i : ℕ) → ℤ
nth first step i = first +ℤ step *ℤ pos i

pub record Ordered (first step : ℤ) (i : ℕ) : Type 0 where
  pub first_small : Small 4096 first
  pub step_small : Small 4096 step
  pub few : i < 4096
  pub inside : Inside 4096 (nth first step i)

-- an item of a stream and its cell: an input's is laid out, an output's put back
unfoldable pub carried_one : (side item cell : ℕ) → (from to : List ℕ) → List ℕ
carried_one side item cell from to = cond (eqb side input) (put_word to item (word from cell)) (put_word to cell (word from item))

-- items in a row, and their cells
unfoldable pub carried : (side item : ℕ) → (cells from to : List ℕ) → List ℕ
carried side item [] from to = to
carried side item (c ∷ cs) from to = carried side (suc item) cs from (carried_one side item c from to)

-- the cell of item i of an order
abbrev pub cell : Order → (i : ℕ) → ℕ
cell o i = o.cells + nat_abs (nth o.first o.step i)

-- each item of an order lies in its array; few items and few cells stand before it
pub record Carries (o : Order) : Type 0 where
  pub ordered : (i : ℕ) → i < o.count → Ordered o.first o.step i
  pub few_items : o.items ≤ 32768
  pub few_cells : o.cells ≤ 32768

-- what is made of a memory's words by the arrays of a file
abbrev pub laid_out : (arrays : List Rec) → List ℕ → List ℕ
laid_out arrays m = map (λ c. get_or m c 0) (cells input 0 arrays)

abbrev pub put_back : (arrays : List Rec) → List ℕ → List ℕ
put_back arrays m = placed (cells output 0 arrays) m (replicate (total output Cells arrays) 0)

-- the areas that putting back is given are as long as they must be: the items of the outputs, and their cells
pub record RightLengths (arrays : List Rec) (from to : List ℕ) : Type 0 where
  pub items : length from ≡ 4 * total output Items arrays
  pub cells : length to ≡ 4 * total output Cells arrays
