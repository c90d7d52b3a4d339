-- A line of the table of rules: whether a for fits; and of a rule that opens and closes no block, which entries of the ledger it asks about, what it
-- asks of them, and what it makes of the ledger.
use Rattle.std.specs.Prelude.{ℕ, ◌+◌, ◌-◌, ◌≤◌, ◌<◌, ◌≡◌, Bool, true, false, List, length, Ok, Err}
use Rattle.std.specs.Prelude as Std
use Rattle.std.proofs.Math.Option.{Option}
use Rattle.std.proofs.Props.{props}
use Rattle.numbers.specs.Result.{Result, ok, stop, ◌>>=◌, need}
use Rattle.forms.specs.Form.{Form, along, Loop, same, below}
use Rattle.kernel.specs.Numbers.{does_not_fit, past_count, not_next_index, not_held}
use Rattle.kernel.specs.File.{Rec, form, Kernel, first_of, count_of, step_of, array}
use Rattle.kernel.specs.Ledger.{Held, held, Ledger, position, holding, read_step, write_step, fill_step, move_step, holds_just}
use Rattle.kernel.specs.Derivation.{Place, loops, buffer, Rule, same_rule, read_rule, fill_rule, use_rule, move_rule, write_rule, for_rule, if_rule, else_rule, end_rule, no_rule}
use Rattle.kernel.specs.Check.{something, fits}
use Rattle.kernel.specs.Named.{misfit}
use Rattle.kernel.specs.Named as Names
use Rattle.kernel.specs.declared.codes.NoCode.{NoCode}
use Rattle.kernel.specs.declared.codes.Rule as Codes
use Rattle.kernel.specs.declared.refusals.Misfit.{Misfit}
use Rattle.parts.specs.declared.Counts.{Counts}
use Rattle.parts.specs.Parts.{kernel}
use Rattle.check_ledger.specs.declared.Ledger as Code
use Rattle.check_ledger.specs.View.{ledger, Bounded}

-- whether a for fits, at this record of the derivation and with so many loops around
abbrev pub ForFits : (file : List ℕ) → Counts → (rule level : ℕ) → (a s : Rec) → Bool → Type 0
ForFits file c rule level a s t = (d : Place) → d.rule ≡ rule → length (loops d.opened) ≡ level → t ≡ fits (kernel file c) d for_rule a s

-- the rule that a number is found to be; none where it is no rule's
abbrev pub meant : Std.Result Codes.Rule NoCode → Rule
meant (Ok r) = Names.rule r
meant (Err e) = no_rule

-- the arrays and buffers that the next statements name are there, where one of rules 1 to 6 fits them
abbrev pub Named : Counts → Rule → (a s : Rec) → Type 0
Named c same_rule a s = Unit
Named c read_rule a s = a.q < c.a
Named c fill_rule a s = (s.q < c.a) × (c.r ≤ s.p) × (s.p < c.r + c.b)
Named c use_rule a s = (c.r ≤ s.q) × (s.q < c.r + c.b)
Named c move_rule a s = (c.r ≤ s.p) × (s.p < c.r + c.b) × (c.r ≤ s.q) × (s.q < c.r + c.b)
Named c write_rule a s = a.q < c.a
Named c for_rule a s = ⊥
Named c if_rule a s = ⊥
Named c else_rule a s = ⊥
Named c end_rule a s = ⊥
Named c no_rule a s = ⊥

-- in one way
pub Named-prop : (c : Counts) (r : Rule) (a s : Rec) → IsProp (Named c r a s)
Named-prop c same_rule a s = Prim.hlevel props
Named-prop c read_rule a s = Prim.hlevel props
Named-prop c fill_rule a s = Prim.hlevel props
Named-prop c use_rule a s = Prim.hlevel props
Named-prop c move_rule a s = Prim.hlevel props
Named-prop c write_rule a s = Prim.hlevel props
Named-prop c for_rule a s = Prim.hlevel props
Named-prop c if_rule a s = Prim.hlevel props
Named-prop c else_rule a s = Prim.hlevel props
Named-prop c end_rule a s = Prim.hlevel props
Named-prop c no_rule a s = Prim.hlevel props

-- ---- what a rule asks

-- the stream whose position it asks about, and the buffer whose content; 0 where it asks about none
unfoldable pub stream_of : Rule → (a s : Rec) → ℕ
stream_of same_rule a s = 0
stream_of read_rule a s = a.q
stream_of fill_rule a s = s.q
stream_of use_rule a s = 0
stream_of move_rule a s = 0
stream_of write_rule a s = a.q
stream_of for_rule a s = 0
stream_of if_rule a s = 0
stream_of else_rule a s = 0
stream_of end_rule a s = 0
stream_of no_rule a s = 0

unfoldable pub buffer_of : (registers : ℕ) → Rule → (s : Rec) → ℕ
buffer_of registers same_rule s = 0
buffer_of registers read_rule s = 0
buffer_of registers fill_rule s = 0
buffer_of registers use_rule s = s.q - registers
buffer_of registers move_rule s = s.q - registers
buffer_of registers write_rule s = 0
buffer_of registers for_rule s = 0
buffer_of registers if_rule s = 0
buffer_of registers else_rule s = 0
buffer_of registers end_rule s = 0
buffer_of registers no_rule s = 0

-- "position below count (11)"
unfoldable pub room_left : Kernel → (around : List Loop) → (q : ℕ) → Form → Result ℕ (Unit {0})
room_left K around q f = need past_count (below around (count_of (array K q)) f)

-- "first + step × position", of an array
abbrev pub next_at : (array : Rec) → Form → Form
next_at r f = along (first_of r) (step_of r) f

-- and "index is the next index (12)": of rules 2 and 6
unfoldable pub next_item : Kernel → (around : List Loop) → (a : Rec) → Form → Result ℕ (Unit {0})
next_item K around a f = do
  _ ← room_left K around a.q f
  need not_next_index (same around (form a) (next_at (array K a.q) f))

-- of that position and that content, with these loops around
unfoldable pub asked : Kernel → (around : List Loop) → Rule → (a s : Rec) → Form → Option Held → Result ℕ (Unit {0})
asked K around same_rule a s f h = ok tt
asked K around read_rule a s f h = next_item K around a f
asked K around fill_rule a s f h = room_left K around s.q f
asked K around use_rule a s f h = need not_held (holds_just around (held a.q (form a)) h)
asked K around move_rule a s f h = need not_held (something h)
asked K around write_rule a s f h = next_item K around a f
asked K around for_rule a s f h = stop does_not_fit
asked K around if_rule a s f h = stop does_not_fit
asked K around else_rule a s f h = stop does_not_fit
asked K around end_rule a s f h = stop does_not_fit
asked K around no_rule a s f h = stop does_not_fit

-- where the derivation stands
abbrev pub asked_there : Kernel → Place → Rule → (a s : Rec) → Result ℕ (Unit {0})
asked_there K c r a s =
    asked K (loops c.opened) r a s (position (stream_of r a s) c.ledger) (holding (buffer_of K.registers r s) c.ledger)

-- the code's answer
unfoldable pub answered : Std.Result Unit Misfit → Result ℕ (Unit {0})
answered (Ok u) = ok tt
answered (Err m) = stop (misfit m)

-- ---- what it does

-- to the ledger
unfoldable pub stepped : Kernel → Rule → (a s : Rec) → Ledger → Ledger
stepped K same_rule a s L = L
stepped K read_rule a s L = read_step a.q L
stepped K fill_rule a s L = fill_step K (buffer K s.p) s.q L
stepped K use_rule a s L = L
stepped K move_rule a s L = move_step (buffer K s.p) (buffer K s.q) L
stepped K write_rule a s L = write_step a.q L
stepped K for_rule a s L = L
stepped K if_rule a s L = L
stepped K else_rule a s L = L
stepped K end_rule a s L = L
stepped K no_rule a s L = L

-- whether it changes the ledger
unfoldable pub steps : Rule → Bool
steps same_rule = false
steps read_rule = true
steps fill_rule = true
steps use_rule = false
steps move_rule = true
steps write_rule = true
steps for_rule = true
steps if_rule = true
steps else_rule = true
steps end_rule = true
steps no_rule = true

-- how many statements of the array program it takes: a fill and a move none
unfoldable pub arrays_taken : Rule → ℕ
arrays_taken same_rule = 1
arrays_taken read_rule = 1
arrays_taken fill_rule = 0
arrays_taken use_rule = 1
arrays_taken move_rule = 0
arrays_taken write_rule = 1
arrays_taken for_rule = 1
arrays_taken if_rule = 1
arrays_taken else_rule = 1
arrays_taken end_rule = 1
arrays_taken no_rule = 1

-- the code's ledger l becomes r as the rule says, and its positions at most one larger
pub record Steps (file : List ℕ) (c : Counts) (rule : Rule) (a s : Rec) (l r : Code.Ledger) : Type 0 where
  pub as_said : ledger c.a c.b r ≡ stepped (kernel file c) rule a s (ledger c.a c.b l)
  pub bounded : (m : ℕ) → Bounded m l → Bounded (m + 1) r
