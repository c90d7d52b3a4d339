-- Where the check stands no number is large.
use Prim.Native.Nat.{ℕ, ◌≤◌}
use native.Mathlib.Omega.{arith}
use Rattle.parts.specs.declared.Kernel.{Kernel}
use Rattle.parts.proofs.Parts.{few}
use Rattle.check_ledger.specs.declared.Ledger.{Ledger}
use Rattle.check_ledger.specs.View.{Bounded}
use Rattle.check_take.specs.declared.Place.{Place}
use Rattle.check_take.specs.View.{AtRule}

module _ (k : Kernel) {at : Place} {l : Ledger} (there : AtRule k.counts at l) where
  -- a rule and so many statements may be taken
  pub near : {arrays : ℕ} → arrays ≤ 1 → (at.rule ≤ 4096) × (at.array ≤ 4096) × (at.stream ≤ 4096) × (arrays ≤ 1)
  near few_more =
      let s = there.stood in
      let f = few k.file.now k.counts k.reads in
      (omega (arith, f.rules, s.rules), omega (arith, f.rules, s.rules, s.arrays), omega (arith, f.rules, s.rules, s.streams), few_more)

  pub small_ledger : (m : ℕ) × Bounded m l × (m ≤ 4096)
  small_ledger = (at.rule, there.stood.bounded, (near {arrays = 0} (omega arith)).0)
