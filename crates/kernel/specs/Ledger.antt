-- "The ledger": for each stream a position, for each buffer an input array and an index form, or nothing.
use Rattle.std.specs.Prelude.{ℕ, Bool, true, false, cond, ◌&&◌, List, [], ◌∷◌, map, get_or, set, replicate, eqb, pos}
use Rattle.std.proofs.Math.Option.{Option, none, some}
use Rattle.numbers.specs.Lists.{alike}
use Rattle.forms.specs.Form.{Form, constant, plus_one, along, Loop, same}
use Rattle.kernel.specs.File.{Kernel, first_of, step_of, array}

-- an input array and an index form
pub data Held : Type 0 where
  held : (q : ℕ) → Form → Held

pub record Ledger : Type 0 where
  pub positions : List Form
  pub buffers : List (Option Held)

-- "At the start positions are 0 and buffers hold nothing"
unfoldable pub fresh : Kernel → Ledger
fresh K = record { positions = map (λ a. constant (pos 0)) K.arrays; buffers = replicate K.buffers none }

unfoldable pub position : (q : ℕ) → Ledger → Form
position q L = get_or L.positions q (constant (pos 0))

unfoldable pub holding : (b : ℕ) → Ledger → Option Held
holding b L = get_or L.buffers b none

-- "The next index of a stream is first + step × position"
unfoldable pub next_index : Kernel → (q : ℕ) → Ledger → Form
next_index K q L = along (first_of (array K q)) (step_of (array K q)) (position q L)

-- ---- "A step of the ledger takes it and hands back the new one"

-- "position + 1"
unfoldable pub passed : (q : ℕ) → Ledger → Ledger
passed q L = record { positions = set L.positions q (plus_one (position q L)); buffers = L.buffers }

unfoldable pub hold : (b : ℕ) → Option Held → Ledger → Ledger
hold b h L = record { positions = L.positions; buffers = set L.buffers b h }

unfoldable pub read_step : (q : ℕ) → Ledger → Ledger
read_step q L = passed q L

unfoldable pub write_step : (q : ℕ) → Ledger → Ledger
write_step q L = passed q L

-- "buffer holds the next index; position + 1"
unfoldable pub fill_step : Kernel → (b q : ℕ) → Ledger → Ledger
fill_step K b q L = passed q (hold b (some (held q (next_index K q L))) L)

-- "the other then holds the same"
unfoldable pub move_step : (to from : ℕ) → Ledger → Ledger
move_step to from L = hold to (holding from L) L

-- ---- whole ledgers

-- every form changed
unfoldable pub each_held : (Form → Form) → Option Held → Option Held
each_held g none = none
each_held g (some (held q f)) = some (held q (g f))

unfoldable pub each : (Form → Form) → Ledger → Ledger
each g L = record { positions = map g L.positions; buffers = map (each_held g) L.buffers }

-- ---- ledgers compared, with these loops around

-- a buffer holds just that
unfoldable pub holds_just : (around : List Loop) → Held → Option Held → Bool
holds_just around (held q f) none = false
holds_just around (held q f) (some (held q' f')) = eqb q q' && same around f f'

unfoldable pub same_positions : (around : List Loop) → Ledger → Ledger → Bool
same_positions around L M = alike (same around) L.positions M.positions

-- "each position row equals the ledger and each buffer row is nothing or equals it"
unfoldable pub row_true : (around : List Loop) → Option Held → Option Held → Bool
row_true around none h = true
row_true around (some r) h = holds_just around r h

unfoldable pub rows_true : (around : List Loop) → (rows : Ledger) → Ledger → Bool
rows_true around rows L = same_positions around rows L && alike (row_true around) rows.buffers L.buffers

-- "After an if, a buffer keeps what both branches have equal, else nothing"
unfoldable pub kept : (around : List Loop) → Option Held → Option Held → Option Held
kept around none h = none
kept around (some r) h = cond (holds_just around r h) (some r) none

unfoldable pub kept_all : (around : List Loop) → List (Option Held) → List (Option Held) → List (Option Held)
kept_all around [] gs = []
kept_all around (h ∷ hs) [] = []
kept_all around (h ∷ hs) (g ∷ gs) = kept around h g ∷ kept_all around hs gs

unfoldable pub merged : (around : List Loop) → Ledger → Ledger → Ledger
merged around L M = record { positions = L.positions; buffers = kept_all around L.buffers M.buffers }
