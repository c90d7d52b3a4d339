-- `check_rules::filled` meets its contract: a step of the ledger with the order of the array.
use Prim.Native.Nat.{◌-◌, ◌^◌}
use mathlib.Core.Path.{◌≡◌, sym, ap, subst, ◌∙◌}
use native.Mathlib.Omega.{arith}
use Rattle.numbers.specs.Bounds.{Small}
use Rattle.numbers.proofs.Signs.{as_returned, small_back}
use Rattle.kernel.specs.File.{first_of, step_of}
use Rattle.kernel.specs.Ledger.{fill_step}
use Rattle.kernel.specs.Derivation.{buffer}
use Rattle.parts.specs.Arrays.{array_at}
use Rattle.parts.proofs.Parts.{K, few, arrays_ready, arrays_are, registers_are}
use Rattle.parts.proofs.Arrays.{array_as, first_small, step_small}
use Rattle.check_ledger.specs.View.{ledger}
use Rattle.check_rules.specs.View.{stepped}
use Rattle.check_rules.proofs.filled.Goals.{After-step-step}
use Rattle.check_rules.proofs.filled.Goals as goal

-- the array's record stands in the file
module _ (c : After-step-step) where
  record_is : array_at c.arrays-arrays.result.file.now c.args.s.q ≡ array_at c.args.kernel.file.now c.args.s.q
  record_is = ap (λ f. array_at f.now c.args.s.q) c.arrays-arrays.ensures.0

pub fill-requires : goal.fill-requires
fill-requires c =
    let k = c.args.kernel in
    let q = c.args.s.q in
    let h = c.requires.0.0 in
    let ready = arrays_ready k.file.now k.counts k.reads in
    let f = few k.file.now k.counts k.reads in
    let is = record_is (goal.at.fill-requires c).After-step-step in (
      omega (arith, c.requires.0.1, c.requires.0.2, f.buffers),
      omega (arith, h, f.arrays),
      c.requires.1,
      small_back (subst (Small (2 ^ 12)) (sym (c.first-first.ensures ∙ ap first_of is)) (first_small k.file.now k.counts.a q h ready)),
      small_back (subst (Small (2 ^ 12)) (sym (c.step-step.ensures ∙ ap step_of is)) (step_small k.file.now k.counts.a q h ready)),
    )

pub returns : goal.returns
unfolding stepped buffer
returns c =
    let q = c.args.s.q in
    let k = c.args.kernel.counts in
    let file = c.args.kernel.file.now in
    let reads = c.args.kernel.reads in
    let is = record_is (goal.at.returns c).After-step-step ∙ array_as file k.a q c.requires.0.0 (K file k) (arrays_are file k) in
    let first = as_returned {z = c.first-first.result} c.first-first.type_inv ∙ c.first-first.ensures ∙ ap first_of is in
    let step = as_returned {z = c.step-step.result} c.step-step.type_inv ∙ c.step-step.ensures ∙ ap step_of is in
    record {
      as_said = c.fill.ensures.0 (K file k) k.a k.b (few file k reads).arrays c.requires.0.0 first step ∙ ap (λ d. fill_step (K file k) (c.args.s.p - d) q (ledger k.a k.b c.args.l)) (sym (registers_are file k));
      bounded = c.fill.ensures.1;
    }
