-- Hold rows as records of a derivation: whether they fit, and the ledger that they state.
use Rattle.std.specs.Prelude.{ℕ, ◌+◌, ◌≡◌, Bool, ◌&&◌, List, length, get_or, drop}
use Rattle.kernel.specs.File.{Rec, form, nothing, Kernel, position_row, buffer_row}
use Rattle.kernel.specs.Guarantees.{FormSmall}
use Rattle.kernel.specs.Derivation.{Place, hold_rows, stated}
use Rattle.kernel.specs.Check.{in_order}
use Rattle.check_ledger.specs.declared.Ledger.{Ledger}
use Rattle.check_ledger.specs.View.{ledger}

-- the rows of a for stand from record `from` on: its arrays', then its buffers'
abbrev pub rows_fit_from : (level from arrays buffers : ℕ) → List Rec → Bool
rows_fit_from level from arrays buffers rs = in_order position_row level 0 arrays (drop from rs) && in_order buffer_row level 0 buffers (drop (from + arrays) rs)

-- reading has found every record's index form small
pub record SmallForms (rs : List Rec) : Type 0 where
  pub at_record : (i : ℕ) → FormSmall (form (get_or rs i nothing))

-- l is what the rows after the for at record `rule` state, in a kernel with this derivation and so many arrays and buffers
abbrev pub FromRows : (rs : List Rec) (rule arrays buffers : ℕ) → Ledger → Type 0
FromRows rs rule arrays buffers l =
    (K : Kernel) (c : Place) → K.derivation ≡ rs → length K.arrays ≡ arrays → K.buffers ≡ buffers → c.rule ≡ rule
    → ledger arrays buffers l ≡ stated K (hold_rows K c)
