-- The ledger of the code, seen as the ledger of the definitions; and bounds under which no sum or product leaves 64 bits.
use Rattle.std.specs.Prelude.{ℕ, ◌+◌, ◌^◌, ◌<◌, ◌≤◌, ◌≡◌, List, [], map, length, ℤ, pos, get_or, take, replicate, Option, Some, None}
use Rattle.std.proofs.Math.Option as Math
use Rattle.forms.specs.declared.Form.{Form}
use Rattle.forms.specs.Form as F
use Rattle.forms.specs.Form.{Loop}
use Rattle.forms.specs.Code.{form, Within}
use Rattle.kernel.specs.File.{Kernel, array, first_of, step_of}
use Rattle.kernel.specs.Ledger as L
use Rattle.check_ledger.specs.declared.Held.{Held}
use Rattle.check_ledger.specs.declared.Ledger.{Ledger}

-- ---- the ledger

abbrev pub content : Held → L.Held
content h = L.held h.array (form h.index)

unfoldable pub held : Option Held → Math.Option L.Held
held None = Math.none
held (Some h) = Math.some (content h)

-- of a streams and b buffers
abbrev pub positions_of : (a : ℕ) → Ledger → List F.Form
positions_of a l = map form (take a l.positions)

abbrev pub held_of : (b : ℕ) → Ledger → List (Math.Option L.Held)
held_of b l = map held (take b l.buffers)

unfoldable pub ledger : (a b : ℕ) → Ledger → L.Ledger
ledger a b l = record { positions = positions_of a l; buffers = held_of b l }

-- "At the start positions are 0 and buffers hold nothing"
abbrev pub zeros : Ledger
zeros = record { positions = replicate 8 (record { k = pos 0; x = replicate 4 (pos 0) }); buffers = replicate 16 None }

-- what stands past the last position
abbrev pub no_form : Form
no_form = record { k = pos 0; x = [] }

-- r is l after a fill of buffer b from stream q, in a kernel where the stream's order has this first index and step
abbrev pub Filled : (b q : ℕ) (first step : ℤ) → (l r : Ledger) → Type 0
Filled b q first step l r =
    (K : Kernel) (a d : ℕ) → a ≤ 8 → q < a → first ≡ first_of (array K q) → step ≡ step_of (array K q) → ledger a d r ≡ L.fill_step K b q (ledger a d l)

-- positions are small: n steps since the start or the last hold rows
pub record Bounded (n : ℕ) (l : Ledger) : Type 0 where
  pub whole : length l.positions ≡ 8
  pub at_position : (q : ℕ) → Within (2 ^ 37 + n) (2 ^ 20) (get_or l.positions q no_form)

-- r is l with the first a positions of another ledger
pub record Took (a : ℕ) (from l r : Ledger) : Type 0 where
  pub positions_are : positions_of a r ≡ positions_of a from
  pub buffers_are : r.buffers ≡ l.buffers
  pub bounded : (n : ℕ) → Bounded n from → Bounded n l → Bounded n r

-- r is l with what its first b buffers and those of another ledger both have, with these loops around
pub record Kept (b : ℕ) (around : List Loop) (first l r : Ledger) : Type 0 where
  pub positions_are : r.positions ≡ l.positions
  pub buffers_are : held_of b r ≡ L.kept_all around (held_of b first) (held_of b l)
