-- `read_file::arrays_fit` meets its contract. The invariant: the test from here on, with the lengths so far, is the test of the whole.
use Prim.Native.Nat.{◌+◌, ◌<◌}
use mathlib.Core.Path.{◌≡◌, refl, sym, ap, ◌∙◌}
use native.Mathlib.Omega.{arith}
use lib.ListN.{length, get_or, drop}
use Rattle.numbers.specs.Result.{stop}
use Rattle.kernel.specs.File.{nothing, only, length_of}
use Rattle.kernel.specs.Named.{side, misread, section}
use Rattle.kernel.specs.Reading.{array_fits, arrays_fit}
use Rattle.parts.specs.Tables.{rows}
use Rattle.parts.proofs.Records.{count_is}
use Rattle.read_file.specs.View.{checked}
use Rattle.read_file.proofs.Rows.{array_unfit, inputs_long, outputs_long, array_fine, arrays_over}
use Rattle.read_file.proofs.arrays_fit.Goals.{After-array_fits, then-not-array_fits-via-then-not-array_fits, then-not-array_fits-via-else-not-array_fits+then-inputs-gt8192, then-not-array_fits-via-else-not-array_fits+else-inputs-gt8192+then-outputs-gt8192}
use Rattle.read_file.proofs.arrays_fit.Goals as goal

-- the array that is tested, and the lengths with it
module _ (c : After-array_fits) where
  there : c.loop-i.i < length (rows c.args.arrays)
  there = omega (arith, count_is c.args.arrays.file.now c.args.arrays.part, c.loop-i-test.true)

  tested : array_fits (get_or (rows c.args.arrays) c.loop-i.i nothing) ≡ c.array_fits.result
  tested = ap array_fits (sym c.record-a.ensures) ∙ sym c.array_fits.ensures

  inputs_are : c.added-inputs.result ≡ c.loop-i.inputs + only 1 length_of (get_or (rows c.args.arrays) c.loop-i.i nothing)
  unfolding side
  inputs_are = c.added-inputs.ensures ∙ ap (λ r. c.loop-i.inputs + only 1 length_of r) c.record-a.ensures

  outputs_are : c.added-outputs.result ≡ c.loop-i.outputs + only 2 length_of (get_or (rows c.args.arrays) c.loop-i.i nothing)
  unfolding side
  outputs_are = c.added-outputs.ensures ∙ ap (λ r. c.loop-i.outputs + only 2 length_of r) c.record-a.ensures

pub loop-i-init : goal.loop-i-init
loop-i-init c = record { inputs = omega arith; outputs = omega arith; rest = refl }

pub added-inputs-requires : goal.added-inputs-requires
added-inputs-requires c = c.loop-i.invariant.inputs

pub added-outputs-requires : goal.added-outputs-requires
added-outputs-requires c = c.loop-i.invariant.outputs

pub returns-then-not-array_fits : goal.returns-then-not-array_fits
unfolding checked misread section
returns-then-not-array_fits c =
    let l = c.loop-i in
    let g = (goal.at.returns-then-not-array_fits c).After-array_fits in
    let rs = rows c.args.arrays in
    ap (λ f. stop f) c.refused.ensures
    ∙ sym (elim c.then-not-array_fits.branch [
      | then-not-array_fits-via-then-not-array_fits w ↦ array_unfit rs l.i (there g) l.inputs l.outputs (tested g ∙ w.if-not-array_fits.true)
      | then-not-array_fits-via-else-not-array_fits+then-inputs-gt8192 w ↦
          inputs_long rs l.i (there g) l.inputs l.outputs (tested g ∙ w.if-not-array_fits.false) (omega (arith, inputs_are g, w.if-inputs-gt8192.true))
      | then-not-array_fits-via-else-not-array_fits+else-inputs-gt8192+then-outputs-gt8192 w ↦
          outputs_long rs l.i (there g) l.inputs l.outputs (tested g ∙ w.if-not-array_fits.false) (omega (arith, inputs_are g, w.if-inputs-gt8192.false)) (omega (arith, outputs_are g, w.if-outputs-gt8192.true))
    ])
    ∙ l.invariant.rest

pub loop-i-preserved : goal.loop-i-preserved
loop-i-preserved c =
    let l = c.loop-i in
    let g = (goal.at.loop-i-preserved c).After-array_fits in
    let rs = rows c.args.arrays in record {
      inputs = c.if-inputs-gt8192.false;
      outputs = c.if-outputs-gt8192.false;
      rest = (λ j. arrays_fit (l.i + 1) (inputs_are g j) (outputs_are g j) (drop (l.i + 1) rs))
          ∙ array_fine rs l.i (there g) l.inputs l.outputs (tested g ∙ c.if-not-array_fits.false) (omega (arith, inputs_are g, c.if-inputs-gt8192.false)) (omega (arith, outputs_are g, c.if-outputs-gt8192.false))
          ∙ l.invariant.rest;
    }

pub returns : goal.returns
unfolding checked
returns c =
    let l = c.loop-i in
    sym (arrays_over (rows c.args.arrays) l.i l.inputs l.outputs (omega (arith, count_is c.args.arrays.file.now c.args.arrays.part, c.loop-i-test.false))) ∙ l.invariant.rest
