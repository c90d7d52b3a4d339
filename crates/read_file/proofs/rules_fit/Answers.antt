-- `read_file::rules_fit` meets its contract. The invariant: the test from here on is the test of the whole.
use Prim.Native.Nat.{◌<◌}
use mathlib.Core.Path.{◌≡◌, refl, sym, ap, ◌∙◌}
use native.Mathlib.Omega.{arith}
use lib.ListN.{length, get_or}
use Rattle.numbers.specs.Result.{stop}
use Rattle.kernel.specs.File.{Kernel, nothing}
use Rattle.kernel.specs.Named as Named
use Rattle.kernel.specs.Reading.{rule_fits}
use Rattle.parts.specs.Tables.{rows}
use Rattle.parts.proofs.Records.{count_is}
use Rattle.read_file.specs.View.{checked}
use Rattle.read_file.proofs.Rows.{rule_unfit, rule_fine, rules_over}
use Rattle.read_file.proofs.rules_fit.Goals.{After-rule_fits}
use Rattle.read_file.proofs.rules_fit.Goals as goal

-- the record that is tested
module _ (c : After-rule_fits) where
  there : c.loop-i.i < length (rows c.args.rules)
  there = omega (arith, count_is c.args.rules.file.now c.args.rules.part, c.loop-i-test.true)

  tested : (K : Kernel) → length K.arrays ≡ c.args.counts.a → K.buffers ≡ c.args.counts.b → rule_fits K (get_or (rows c.args.rules) c.loop-i.i nothing) ≡ c.rule_fits.result
  tested K x y = ap (rule_fits K) (sym c.record.ensures) ∙ sym (c.rule_fits.ensures K x y)

pub loop-i-init : goal.loop-i-init
loop-i-init c = λ K x y. refl

pub returns-then-not-rule_fits : goal.returns-then-not-rule_fits
unfolding checked Named.misread Named.section
returns-then-not-rule_fits c = λ K x y.
    let g = (goal.at.returns-then-not-rule_fits c).After-rule_fits in
    ap (λ f. stop f) c.refused.ensures
    ∙ sym (rule_unfit K (rows c.args.rules) c.loop-i.i (there g) (tested g K x y ∙ c.if-not-rule_fits.true)) ∙ c.loop-i.invariant K x y

pub loop-i-preserved : goal.loop-i-preserved
loop-i-preserved c = λ K x y.
    let g = (goal.at.loop-i-preserved c).After-rule_fits in
    rule_fine K (rows c.args.rules) c.loop-i.i (there g) (tested g K x y ∙ c.if-not-rule_fits.false) ∙ c.loop-i.invariant K x y

pub returns : goal.returns
unfolding checked
returns c = λ K x y.
    sym (rules_over K (rows c.args.rules) c.loop-i.i (omega (arith, count_is c.args.rules.file.now c.args.rules.part, c.loop-i-test.false)))
    ∙ c.loop-i.invariant K x y
