-- The walk over a derivation, as the code of the check goes on with it.
use Rattle.std.specs.Prelude.{◌≤◌, ◌<◌, ◌≡◌, Bool, true, false, not, List, Ok}
use Rattle.numbers.specs.Result.{◌>>=◌}
use Rattle.forms.specs.Form.{Loop}
use Rattle.forms.specs.declared.Loops.{Loops}
use Rattle.forms.specs.Code.{Turning}
use Rattle.forms.specs.Code as Forms
use Rattle.kernel.specs.Reading.{Open, open_loops}
use Rattle.kernel.specs.Derivation.{Opened, loops}
use Rattle.kernel.specs.Check.{walk_on, no_block}
use Rattle.kernel.specs.declared.codes.Rule.{Rule}
use Rattle.kernel.specs.declared.codes.Rule.TheVariants.{Else, End}
use Rattle.parts.specs.declared.Kernel.{Kernel}
use Rattle.check_ledger.specs.declared.Ledger.{Ledger}
use Rattle.check_take.specs.declared.Place.{Place}
use Rattle.check_take.specs.View.{held_by, Reached, Taken, with_ledger, standing, place, taken, Stood, AtRule, due, Closing, ReadsOn, EnteredFor}

-- from there on the definition's walk with os open goes on as from where r leaves it with os' open, or is refused as r says
abbrev pub Goes : Kernel → (os : List Opened) → Place → Ledger → (os' : List Opened) → Taken → Type 0
Goes k os at l os' r = walk_on (held_by k) (place k.counts.a k.counts.b os at l) ≡ (taken k.counts.a k.counts.b os' r >>= walk_on (held_by k))

-- where the walk of a block has come to that is not refused: inside another at an else or end, else at the end of all three sections
unfoldable pub Rests : Kernel → (inside : Bool) → Place → Type 0
Rests k true at = (at.rule < k.counts.d) × Closing k at
Rests k false at = (k.counts.d ≤ at.rule) × (k.counts.s ≤ at.array) × (k.counts.t ≤ at.stream)

-- what has been passed over on the way here fits, and so does the ledger
pub record Further (k : Kernel) (from at : Place) (l : Ledger) : Type 0 where
  pub stood : Stood k.counts at l
  pub further_on : from.rule ≤ at.rule
  pub reads_on : (opens : List Open) → ReadsOn k opens from → ReadsOn k opens at

-- the array program reads on from there, with as many loops open as are around
pub record Opens (k : Kernel) (at : Place) (ls : Loops) : Type 0 where
  pub opens : List Open
  pub reads_on : ReadsOn k opens at
  pub level : open_loops opens ≡ ls.count

-- the walk stops there, or is refused there as r says; some block is open just where `inside` says so
abbrev pub Stops : Kernel → (inside : Bool) → Place → Ledger → Reached → Type 0
Stops k inside at l r = ((os : List Opened) → no_block os ≡ not inside → Goes k os at l os (with_ledger r l)) × ((to : Place) → r ≡ Ok to → (to ≡ at) × Rests k inside to)

-- the rules of a block have been walked from there to r, with these loops around
abbrev pub BlockWalked : Kernel → (around : List Loop) → (inside : Bool) → Place → Ledger → Taken → Type 0
BlockWalked k around inside at l r =
    ((os : List Opened) → loops os ≡ around → no_block os ≡ not inside → Goes k os at l os r) × ((to : Place) → r.came ≡ Ok to → Further k at to r.ledger × Rests k inside to)

-- this rule, neither an else nor an end, stands there
abbrev pub RuleDue : Kernel → Place → Ledger → Loops → Rule → Type 0
RuleDue k at l ls rule = AtRule k.counts at l × Turning ls × (ls.count ≤ 4) × Opens k at ls × (due k at ≡ Ok rule) × (rule ≡ Else → ⊥) × (rule ≡ End → ⊥)

-- it has been walked from there to r, a for or an if with all inside it
abbrev pub RuleWalked : Kernel → (around : List Loop) → Place → Ledger → Taken → Type 0
RuleWalked k around at l r = ((os : List Opened) → loops os ≡ around → Goes k os at l os r) × ((to : Place) → r.came ≡ Ok to → Further k at to r.ledger × (at.rule < to.rule))

-- the for there has been entered, from some ledger: it goes on at `body`, inside, with ledger l
abbrev pub ForEntered : Kernel → Place → (body : Place) → Ledger → Loops → Type 0
ForEntered k at body l ls = (start : Ledger) × AtRule k.counts at start × EnteredFor k at start (Forms.loops ls) (standing body l)
