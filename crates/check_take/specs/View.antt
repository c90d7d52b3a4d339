-- Where the code of the check stands and the ledger that is lent to it, seen as a place of the definitions; and what is said of a rule that it takes from there.
use Rattle.std.specs.Prelude as Std
use Rattle.std.specs.Prelude.{ℕ, ◌+◌, ◌≤◌, ◌<◌, ◌≡◌, Bool, cond, ◌⊎◌, List, [], ◌∷◌, ◌++◌, get_or, drop, Ok, Err}
use Rattle.numbers.specs.Result.{Result, ok, stop, ◌>>=◌}
use Rattle.forms.specs.Form.{Loop}
use Rattle.kernel.specs.File as File
use Rattle.kernel.specs.File.{Rec, nothing, loop_of}
use Rattle.kernel.specs.Reading as Reading
use Rattle.kernel.specs.Reading.{array_scope, Open, open_loops}
use Rattle.kernel.specs.Derivation as Derivation
use Rattle.kernel.specs.Derivation.{Opened, in_for, in_if, in_else, loops, went}
use Rattle.kernel.specs.Check as Check
use Rattle.kernel.specs.Check.{Refusal, take_rule}
use Rattle.kernel.specs.Guarantees.{LoopFits, Nested}
use Rattle.kernel.specs.Named.{misfit, rule, ruled}
use Rattle.kernel.specs.declared.codes.NoCode.{NoCode}
use Rattle.kernel.specs.declared.codes.Rule.{Rule}
use Rattle.kernel.specs.declared.codes.Rule.TheVariants.{For, If, Else, End}
use Rattle.kernel.specs.declared.refusals.Misfit.{Misfit}
use Rattle.kernel.specs.declared.refusals.Misfit.TheVariants.{DoesNotFit}
use Rattle.parts.specs.declared.Counts.{Counts}
use Rattle.parts.specs.declared.Kernel.{Kernel}
use Rattle.parts.specs.Records.{rec}
use Rattle.parts.specs.Parts.{kernel}
use Rattle.check_ledger.specs.declared.Ledger.{Ledger}
use Rattle.check_ledger.specs.View.{ledger, Bounded}
use Rattle.check_rows.specs.Changes.{Stated}
use Rattle.check_rules.specs.declared.Pair.{Pair}
use Rattle.check_rules.specs.View.{Named, asked_there, answered, stepped, arrays_taken}
use Rattle.check_take.specs.declared.Place.{Place}
use Rattle.check_take.specs.declared.Refused.{Refused}

-- the kernel that a file holds
abbrev pub held_by : Kernel → File.Kernel
held_by k = kernel k.file.now k.counts

-- ---- where the check stands

-- in a kernel with a arrays and b buffers, with these blocks open
abbrev pub place : (a b : ℕ) → List Opened → Place → Ledger → Derivation.Place
place a b os at l = record { rule = at.rule; array = at.array; stream = at.stream; opened = os; ledger = ledger a b l }

-- where the derivation goes on after a rule, or how the rule is refused
abbrev pub Reached : Type 0
Reached = Std.Result Place Refused

-- that with the ledger after it
pub record Taken : Type 0 where
  pub came : Reached
  pub ledger : Ledger

abbrev pub with_ledger : Reached → Ledger → Taken
with_ledger r l = record { came = r; ledger = l }

abbrev pub refusal : Refused → Refusal
refusal e = record { number = misfit e.misfit; rule = e.at.rule; array = e.at.array; stream = e.at.stream }

unfoldable pub goes : (a b : ℕ) → List Opened → Ledger → Reached → Result Refusal Derivation.Place
goes a b os l (Ok at) = ok (place a b os at l)
goes a b os l (Err e) = stop (refusal e)

abbrev pub taken : (a b : ℕ) → List Opened → Taken → Result Refusal Derivation.Place
taken a b os t = goes a b os t.ledger t.came

-- where it stands before a rule
abbrev pub standing : Place → Ledger → Taken
standing at l = record { came = Ok at; ledger = l }

-- refused there
abbrev pub refused : Place → Misfit → Refused
refused at m = record { misfit = m; at = at }

-- refused there unless a condition holds
abbrev pub needed : Place → Misfit → Bool → Std.Result Unit Refused
needed at m holds = cond holds (Ok tt) (Err (refused at m))

-- past one rule, so many statements of the array program and one of the stream program
abbrev pub further : Place → (arrays : ℕ) → Place
further at arrays = record { rule = at.rule + 1; array = at.array + arrays; stream = at.stream + 1 }

-- no more rules are taken than there are, no more statements than rules, and the forms are as small as so many rules leave them
pub record Stood (c : Counts) (at : Place) (l : Ledger) : Type 0 where
  pub rules : at.rule ≤ c.d
  pub arrays : at.array ≤ at.rule
  pub streams : at.stream ≤ at.rule
  pub bounded : Bounded at.rule l

-- ---- in a kernel

-- the code of the rule there
abbrev pub rule_code : Kernel → Place → ℕ
rule_code k at = (get_or (held_by k).derivation at.rule nothing).code

-- that rule; a code that is no rule's is refused
unfoldable pub rule_or : Place → Std.Result Rule NoCode → Std.Result Rule Refused
rule_or at (Ok r) = Ok r
rule_or at (Err e) = Err (refused at DoesNotFit)

abbrev pub due : Kernel → Place → Std.Result Rule Refused
due k at = rule_or at (ruled (rule_code k at))

-- the next statement of each program, zeros past its end
abbrev pub array_there : Kernel → Place → Rec
array_there k at = get_or (held_by k).array_program at.array nothing

abbrev pub stream_there : Kernel → Place → Rec
stream_there k at = get_or (held_by k).stream_program at.stream nothing

-- as the code has them
pub record Next (k : Kernel) (at : Place) (p : Pair) : Type 0 where
  pub array_is : rec p.array ≡ array_there k at
  pub stream_is : rec p.stream ≡ stream_there k at

-- at some place
abbrev pub NextSomewhere : Kernel → Pair → Type 0
NextSomewhere k p = (at : Place) × Next k at p

-- whether a rule fits them, where the derivation stands
abbrev pub fits_there : Kernel → Place → Rule → Derivation.Place → Bool
fits_there k at r d = Check.fits (held_by k) d (rule r) (array_there k at) (stream_there k at)

-- a rule stands there
pub record AtRule (c : Counts) (at : Place) (l : Ledger) : Type 0 where
  pub stood : Stood c at l
  pub there : at.rule < c.d

-- with some ledger
abbrev pub RuleThere : Counts → Place → Type 0
RuleThere c at = (l : Ledger) × AtRule c at l

-- what a rule asks of the ledger, answered, with these loops around
abbrev pub Answers : Kernel → Ledger → (around : List Loop) → Rule → Pair → Std.Result Unit Misfit → Type 0
Answers k l around r p answer =
    (os : List Opened) (at : Place) → loops os ≡ around → answered answer ≡ asked_there (held_by k) (place k.counts.a k.counts.b os at l) (rule r) (rec p.array) (rec p.stream)

-- an else or an end
abbrev pub Closing : Kernel → Place → Type 0
Closing k at = (due k at ≡ Ok Else) ⊎ (due k at ≡ Ok End)

-- neither a for nor an if, and no end of one
pub record Plain (r : Rule) : Type 0 where
  pub no_for : r ≡ For → ⊥
  pub no_if : r ≡ If → ⊥
  pub no_else : r ≡ Else → ⊥
  pub no_end : r ≡ End → ⊥

-- what is due is such a rule, or none
abbrev pub PlainOrNone : Std.Result Rule Refused → Type 0
PlainOrNone next = (r : Rule) → next ≡ Ok r → Plain r

-- ---- the array program, as it was read

-- it reads on from there with these blocks open
abbrev pub ReadsOn : Kernel → List Open → Place → Type 0
ReadsOn k opens at = Nested (array_scope (held_by k)) opens (drop at.array (held_by k).array_program)

-- the loop of the for there
abbrev pub loop_there : Kernel → Place → Loop
loop_there k at = loop_of (array_there k at)

-- there is room for that loop, and the program reads on inside it
pub record Enters (k : Kernel) (opens : List Open) (at inside : Place) : Type 0 where
  pub fits : LoopFits (loop_there k at)
  pub room : open_loops opens < 4
  pub reads_inside : ReadsOn k (Reading.open_for (loop_there k at).passes ∷ opens) inside

-- ---- a rule taken

-- with os open the code takes the rule there as the definition does, and has os' open after it
abbrev pub TakesRule : Kernel → (os : List Opened) → Place → Ledger → (os' : List Opened) → Taken → Type 0
TakesRule k os at l os' r = taken k.counts.a k.counts.b os' r ≡ take_rule (held_by k) (place k.counts.a k.counts.b os at l)

-- where it is not refused, the derivation goes on to a place further on
pub record Onward (c : Counts) (at : Place) (to : Place) (l : Ledger) : Type 0 where
  pub stood : Stood c to l
  pub further_on : at.rule < to.rule

-- whether this rule, a plain one, with these statements next, is taken with these loops around, wherever it stands; and its step is then still to be made
pub record Refuses (k : Kernel) (l : Ledger) (around : List Loop) (r : Rule) (p : Pair) (answer : Std.Result Unit Misfit) : Type 0 where
  pub as_defined : (os : List Opened) (at : Place) → loops os ≡ around → due k at ≡ Ok r → Next k at p
      → take_rule (held_by k) (place k.counts.a k.counts.b os at l)
      ≡ Check.at (place k.counts.a k.counts.b os at l)
      (answered answer >>= λ _. ok (went 1 (arrays_taken (rule r)) 1 os (stepped (held_by k) (rule r) (rec p.array) (rec p.stream) (ledger k.counts.a k.counts.b l)) (place k.counts.a k.counts.b os at l)))
  pub named : answer ≡ Ok tt → Named k.counts (rule r) (rec p.array) (rec p.stream)
  pub reads_on : answer ≡ Ok tt → (at : Place) → Next k at p → (opens : List Open) → ReadsOn k opens at → ReadsOn k opens (further at (arrays_taken (rule r)))

-- a plain rule, with these loops around
pub record TakenPlain (k : Kernel) (at : Place) (l : Ledger) (around : List Loop) (r : Taken) : Type 0 where
  pub as_defined : (os : List Opened) → loops os ≡ around → TakesRule k os at l os r
  pub onward : (to : Place) → r.came ≡ Ok to → Onward k.counts at to r.ledger
  pub reads_on : (to : Place) → r.came ≡ Ok to → (opens : List Open) → ReadsOn k opens at → ReadsOn k opens to

-- a for, entered: the ledger inside is the one that its rows state
pub record EnteredFor (k : Kernel) (at : Place) (l : Ledger) (around : List Loop) (r : Taken) : Type 0 where
  pub as_defined : (os : List Opened) → loops os ≡ around → TakesRule k os at l (in_for (loop_there k at) (ledger k.counts.a k.counts.b r.ledger) ∷ os) r
  pub onward : (to : Place) → r.came ≡ Ok to → Onward k.counts at to r.ledger
  pub stated : (to : Place) → r.came ≡ Ok to → Stated r.ledger
  pub enters : (to : Place) → r.came ≡ Ok to → (opens : List Open) → ReadsOn k opens at → Enters k opens at to

-- the for of this loop and these rows, left; `inside` are the loops around its body
pub record LeftFor (k : Kernel) (at : Place) (l rows : Ledger) (own : Loop) (inside : List Loop) (r : Taken) : Type 0 where
  pub as_defined : (os : List Opened) → loops os ++ own ∷ [] ≡ inside → TakesRule k (in_for own (ledger k.counts.a k.counts.b rows) ∷ os) at l os r
  pub onward : (to : Place) → r.came ≡ Ok to → Onward k.counts at to r.ledger
  pub reads_on : (to : Place) → r.came ≡ Ok to → (n : ℕ) (opens : List Open) → ReadsOn k (Reading.open_for n ∷ opens) at → ReadsOn k opens to

-- an if, entered
pub record EnteredIf (k : Kernel) (at : Place) (l : Ledger) (r : Taken) : Type 0 where
  pub as_defined : (os : List Opened) → TakesRule k os at l (in_if (ledger k.counts.a k.counts.b l) ∷ os) r
  pub onward : (to : Place) → r.came ≡ Ok to → Onward k.counts at to r.ledger
  pub reads_on : (to : Place) → r.came ≡ Ok to → (opens : List Open) → ReadsOn k opens at → ReadsOn k (Reading.open_if ∷ opens) to

-- the if that was entered with ledger `start`, turned at its else
pub record Turned (k : Kernel) (at : Place) (l start : Ledger) (r : Taken) : Type 0 where
  pub as_defined : (os : List Opened) → TakesRule k (in_if (ledger k.counts.a k.counts.b start) ∷ os) at l (in_else (ledger k.counts.a k.counts.b l) ∷ os) r
  pub onward : (to : Place) → r.came ≡ Ok to → Onward k.counts at to r.ledger
  pub reads_on : (to : Place) → r.came ≡ Ok to → (opens : List Open) → ReadsOn k (Reading.open_if ∷ opens) at → ReadsOn k (Reading.open_else ∷ opens) to

-- the if whose first branch ended with ledger `first`, left
pub record LeftIf (k : Kernel) (at : Place) (l first : Ledger) (around : List Loop) (r : Taken) : Type 0 where
  pub as_defined : (os : List Opened) → loops os ≡ around → TakesRule k (in_else (ledger k.counts.a k.counts.b first) ∷ os) at l os r
  pub onward : (to : Place) → r.came ≡ Ok to → Onward k.counts at to r.ledger
  pub reads_on : (to : Place) → r.came ≡ Ok to → (opens : List Open) → ReadsOn k (Reading.open_else ∷ opens) at → ReadsOn k opens to

-- ---- whether the rule there closes a block

-- it is this one, and fits
pub record Closes (k : Kernel) (at : Place) (r : Rule) (t : Bool) : Type 0 where
  pub is : t ≡ Std.true → due k at ≡ Ok r
  pub fits : t ≡ Std.true → (d : Derivation.Place) → fits_there k at r d ≡ Std.true
  pub not : t ≡ Std.false → due k at ≡ Ok r → (d : Derivation.Place) → fits_there k at r d ≡ Std.false
