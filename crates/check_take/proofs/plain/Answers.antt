-- `check_take::plain` meets its contract: what refuses it, or past it with the ledger after its step.
use mathlib.Core.Path.{◌≡◌, sym, subst, ◌∙◌}
use native.Mathlib.Omega.{arith}
use borrow.Author.Rules.{rules}
use Rattle.forms.specs.Code.{loops}
use Rattle.kernel.specs.Named.{rule}
use Rattle.parts.specs.Records.{rec}
use Rattle.check_rules.specs.View.{Steps}
use Rattle.check_rules.proofs.Effects.{unchanged}
use Rattle.check_take.proofs.Came.{mapped, mapped_by, mapped_stops, mapped_goes}
use Rattle.check_take.proofs.Standing.{near, small_ledger}
use Rattle.check_take.proofs.Going.{one_at_most}
use Rattle.check_take.proofs.Steps.{none_taken, plain_refused, plain_taken}
use Rattle.check_take.proofs.plain.Goals.{After-map_err, then-steps, else-steps}
use Rattle.check_take.proofs.plain.Goals as goal

-- a misfit is refused there
module _ (c : After-map_err) where
  answer : c.map_err.result ≡ mapped c.args.at c.refuses.result
  answer = mapped_by c.args.at c.refuses.result c.map_err.result c.map_err.ensures.cases (λ u p. search rules) (λ m q. search rules)

-- no rule is due
pub returns-in_err-rule : goal.returns-in_err-rule
returns-in_err-rule c =
    none_taken c.args.kernel c.args.at (loops c.args.around) (c.requires.2 ∙ c.in_err-rule.was) c.from_residual.ensures.1

pub refuses-requires : goal.refuses-requires
refuses-requires c =
    (c.requires.1, c.requires.3 c.in_ok-rule.rule c.in_ok-rule.was, (c.args.at, c.pair_next-pair.ensures), small_ledger c.args.kernel c.requires.0)

pub returns-in_err-map_err : goal.returns-in_err-map_err
returns-in_err-map_err c =
    let (m, misfit, is) = mapped_stops c.args.at c.refuses.result c.from_residual-in_err-map_err.result (answer (goal.at.returns-in_err-map_err c).After-map_err) c.in_err-map_err.was c.from_residual-in_err-map_err.ensures.1 in
    plain_refused c.refuses.ensures c.requires.0 (c.requires.2 ∙ c.in_ok-rule.was) c.pair_next-pair.ensures misfit is

pub step-requires : goal.step-requires
step-requires c = small_ledger c.args.kernel c.requires.0

pub further-requires : goal.further-requires
further-requires c = near c.args.kernel c.requires.0 (omega (arith, c.arrays_taken.ensures, one_at_most (rule c.in_ok-rule.rule)))

pub returns : goal.returns
returns c =
    let k = c.args.kernel in
    let p = c.pair_next-pair.result in
    let after = Steps k.file.now k.counts (rule c.in_ok-rule.rule) (rec p.array) (rec p.stream) c.args.l.now in
    let taken = mapped_goes c.args.at c.refuses.result (answer (goal.at.returns c).After-map_err) c.in_ok-map_err.was in
    let stepped : after c.if-steps.l =
    elim c.if-steps.branch [
      | then-steps w ↦ subst after (sym w.l-is) w.step.ensures
      | else-steps w ↦ subst after (sym w.l-is) (unchanged k.file.now k.counts (rule c.in_ok-rule.rule) _ _ c.args.l.now (sym c.steps.ensures ∙ w.if-steps.false))
    ] in
    plain_taken c.refuses.ensures c.requires.0 (c.requires.2 ∙ c.in_ok-rule.was) c.pair_next-pair.ensures taken stepped c.arrays_taken.ensures c.further.ensures
