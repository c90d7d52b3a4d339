-- Demand 2: the check accepts exactly the files whose derivation follows the rules; otherwise it names the first bad rule and that rule's
-- lowest refusal.
use Rattle.std.specs.Prelude.{◌≡◌, ◌↔◌, List, ℕ, ◌≤◌}
use Rattle.numbers.specs.Result.{ok}
use Rattle.kernel.specs.File.{Kernel}
use Rattle.kernel.specs.Reading.{read_file}
use Rattle.kernel.specs.Derivation.{Place, beginning}
use Rattle.kernel.specs.Rules.{Step, Follows, Finished, Derived, Applies, AppliesFirst}
use Rattle.kernel.specs.Check.{Refusal}
use Rattle.kernel.specs.Answers.{accepted, refused, check}

-- "accepts exactly"
abbrev pub Exactness : Type 0
Exactness = (file : List ℕ) (K : Kernel) → read_file file ≡ ok K → check file ≡ accepted ↔ Derived K

-- the rules up to a place follow, the rule there does not (or the derivation is over and not finished), its number applies and no lower one does: it
-- is that of the first which does not hold, in the table's order
pub record FirstBad (K : Kernel) (r : Refusal) : Type 0 where
  pub place : Place
  pub rule_is : place.rule ≡ r.rule
  pub array_is : place.array ≡ r.array
  pub stream_is : place.stream ≡ r.stream
  pub follows : Follows K (beginning K) place
  pub no_step : (next : Place) → Step K place next → ⊥
  pub not_finished : Finished K place → ⊥
  pub applies : Applies K place r.number
  pub first : AppliesFirst K place r.number
  pub lowest : (lower : ℕ) → Applies K place lower → r.number ≤ lower

-- "names the first bad rule and that rule's lowest refusal"
abbrev pub FirstRefusal : Type 0
FirstRefusal = (file : List ℕ) (K : Kernel) → read_file file ≡ ok K
    → (r : Refusal) → check file ≡ refused r → FirstBad K r
