-- The code's forms and loops, seen as those of the definitions, and the bounds under which no sum or product leaves 64 bits.
use Rattle.std.specs.Prelude.{ℕ, ◌^◌, ◌<◌, ◌≤◌, List, map, take, slice_index_or, pos}
use Rattle.numbers.specs.Bounds.{Small}
use Rattle.forms.specs.Form as F
use Rattle.forms.specs.declared.Form.{Form}
use Rattle.forms.specs.declared.Loop.{Loop}
use Rattle.forms.specs.declared.Loops.{Loops}

abbrev pub form : Form → F.Form
form f = record { k = f.k; x = f.x }

abbrev pub loop : Loop → F.Loop
loop l = record { first = l.first; step = l.step; passes = l.passes }

abbrev pub loops : Loops → List F.Loop
loops ls = take ls.count (map loop ls.levels)

-- the constant within ±K, each coefficient within ±X
pub record Within (K X : ℕ) (f : Form) : Type 0 where
  pub k_small : Small K f.k
  pub x_small : (level : ℕ) → Small X (slice_index_or f.x level (pos 0))

-- a loop that has a pass, with small ends
pub record Turns (l : Loop) : Type 0 where
  pub some : 1 ≤ l.passes
  pub few : l.passes ≤ 2 ^ 17
  pub first_small : Small (2 ^ 16) l.first
  pub step_small : Small (2 ^ 16) l.step
  pub last_small : Small (2 ^ 17) (F.last (loop l))

-- no loop
abbrev pub no_loop : Loop
no_loop = record { first = pos 0; step = pos 0; passes = 0 }

-- each of the loops around does
pub record Turning (ls : Loops) : Type 0 where
  pub turns : (level : ℕ) → level < 4 → level < ls.count → Turns (slice_index_or ls.levels level no_loop)
