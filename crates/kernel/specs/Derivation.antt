-- A place in a derivation: how far it has come in its own records and in both programs, what is open there, and the ledger; its hold rows and its rules.
use Rattle.std.specs.Prelude.{ℕ, suc, ◌+◌, ◌-◌, cond, List, [], ◌∷◌, ◌++◌, map, length, get_or, take, drop, eqb}
use Rattle.std.proofs.Math.Option.{Option, none, some}
use Rattle.forms.specs.Form.{Loop}
use Rattle.kernel.specs.File.{Rec, form, nothing, Kernel}
use Rattle.kernel.specs.Reading.{minus_one}
use Rattle.kernel.specs.Ledger.{Held, held, Ledger, fresh}

-- a block that rules have opened: a for, with its loop and the ledger that its hold rows state; an if in its first branch, with the
-- ledger from which "else starts again"; an if in its second branch, with the ledger that the first ended with
pub data Opened : Type 0 where
  in_for : Loop → (rows : Ledger) → Opened
  in_if : (start : Ledger) → Opened
  in_else : (first : Ledger) → Opened

-- the next record of each section "that no rule has taken", the blocks open (innermost first), and the ledger
pub record Place : Type 0 where
  pub rule : ℕ
  pub array : ℕ
  pub stream : ℕ
  pub opened : List Opened
  pub ledger : Ledger

unfoldable pub beginning : Kernel → Place
beginning K = record { rule = 0; array = 0; stream = 0; opened = []; ledger = fresh K }

-- the loops around, level 0 first
unfoldable pub loops : List Opened → List Loop
loops [] = []
loops (in_for l rows ∷ os) = loops os ++ l ∷ []
loops (in_if start ∷ os) = loops os
loops (in_else first ∷ os) = loops os

unfoldable pub next_rule : Kernel → Place → Rec
next_rule K c = get_or K.derivation c.rule nothing

unfoldable pub next_array : Kernel → Place → Rec
next_array K c = get_or K.array_program c.array nothing

unfoldable pub next_stream : Kernel → Place → Rec
next_stream K c = get_or K.stream_program c.stream nothing

-- past r records of the derivation and these numbers of statements
unfoldable pub went : (r a s : ℕ) → List Opened → Ledger → Place → Place
went r a s os L c = record { rule = c.rule + r; array = c.array + a; stream = c.stream + s; opened = os; ledger = L }

-- past a rule and the next statement of both programs
abbrev pub past_both : List Opened → Ledger → Place → Place
past_both os L c = went 1 1 1 os L c

-- past a rule and the next statement of the stream program alone
abbrev pub past_stream : List Opened → Ledger → Place → Place
past_stream os L c = went 1 0 1 os L c

-- ---- hold rows

-- "After a for come A rows of code 11, then B rows of code 12"
unfoldable pub row_count : Kernel → ℕ
row_count K = length K.arrays + K.buffers

-- past a for, its hold rows and the next statement of both programs
abbrev pub past_rows : Kernel → List Opened → Ledger → Place → Place
past_rows K os L c = went (suc (row_count K)) 1 1 os L c

unfoldable pub hold_rows : Kernel → Place → List Rec
hold_rows K c = take (row_count K) (drop (suc c.rule) K.derivation)

-- "q = input array or −1 for nothing"
unfoldable pub row_held : Rec → Option Held
row_held r = cond (eqb r.q minus_one) none (some (held r.q (form r)))

-- the ledger that the rows state
unfoldable pub stated : Kernel → List Rec → Ledger
stated K rs = record { positions = map form (take (length K.arrays) rs); buffers = map row_held (drop (length K.arrays) rs) }

-- ---- rules

pub data Rule : Type 0 where
  same_rule read_rule fill_rule use_rule move_rule write_rule for_rule if_rule else_rule end_rule no_rule : Rule

-- by code; a hold row where a rule is due is stray
unfoldable pub rule : ℕ → Rule
rule code = get_or (no_rule ∷ same_rule ∷ read_rule ∷ fill_rule ∷ use_rule ∷ move_rule ∷ write_rule ∷ for_rule ∷ if_rule ∷ else_rule ∷ end_rule ∷ []) code no_rule

-- "R and up are the buffers": which one p is
unfoldable pub buffer : Kernel → ℕ → ℕ
buffer K p = p - K.registers
