-- What becomes of a form when the counter of a level is changed; and a ledger that hold rows state: its forms are those of a file.
use Rattle.std.specs.Prelude.{ℕ, ◌^◌, ◌≡◌, length, get_or, Option, Some, None}
use Rattle.forms.specs.Form as F
use Rattle.forms.specs.Code.{Within}
use Rattle.check_ledger.specs.declared.Held.{Held}
use Rattle.check_ledger.specs.View.{no_form}
use Rattle.check_ledger.specs.declared.Ledger.{Ledger}
use Rattle.check_rows.specs.declared.change.Change.{Change}
use Rattle.check_rows.specs.declared.change.Counter.{Counter}
use Rattle.check_rows.specs.declared.change.Counter.TheVariants.{At, By}

-- the counter is put at a value, or goes a step on
unfoldable pub counted : Counter → (level : ℕ) → F.Form → F.Form
counted (At c) level = F.put_at level c
counted (By step) level = F.moved_by level step

abbrev pub with_change : Change → F.Form → F.Form
with_change c = counted c.counter c.level

-- what a buffer holds has an index as small as those of a file
abbrev pub SmallHeld : Option Held → Type 0
SmallHeld buffer = (h : Held) → buffer ≡ Some h → Within (2 ^ 20) (2 ^ 20) h.index

-- a ledger of which every form is as small as those of a file
pub record Stated (rows : Ledger) : Type 0 where
  pub whole : (length rows.positions ≡ 8) × (length rows.buffers ≡ 16)
  pub at_position : (q : ℕ) → Within (2 ^ 20) (2 ^ 20) (get_or rows.positions q no_form)
  pub at_buffer : (b : ℕ) → SmallHeld (get_or rows.buffers b None)
