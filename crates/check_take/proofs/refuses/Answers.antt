-- `check_take::refuses` meets its contract: 10 where the rule does not fit, else what it asks.
use mathlib.Core.Path.{◌≡◌, sym, ap, ◌∙◌}
use mathlib.Core.Bool.{true}
use Rattle.numbers.specs.Result.{ok, ◌>>=◌}
use Rattle.kernel.specs.Derivation.{Place, went, beginning}
use Rattle.kernel.specs.Check as Check
use Rattle.kernel.specs.Named.{misfit, rule}
use Rattle.parts.specs.Records.{rec}
use Rattle.parts.proofs.Parts.{few}
use Rattle.check_ledger.specs.View.{ledger}
use Rattle.check_rules.specs.View.{Named, asked_there, answered, stepped, arrays_taken}
use Rattle.check_rules.proofs.Effects.{PlainRule}
use Rattle.check_rules.proofs.Needs.{need_stopped, need_went, answers_so, no_misfit}
use Rattle.check_take.specs.declared.Place as Code
use Rattle.check_take.specs.View.{held_by, fits_there, Next}
use Rattle.check_take.proofs.Decoded.{no_other}
use Rattle.check_take.proofs.Comes.{fits_next, here, unfit, comes}
use Rattle.check_take.proofs.Statements.{level_at, named_next}
use Rattle.check_take.proofs.Going.{rule_reads}
use Rattle.check_take.proofs.refuses.Goals.{In_ok-need}
use Rattle.check_take.proofs.refuses.Goals as goal

-- it fits
module _ (c : In_ok-need) where
  level : PlainRule (rule c.args.rule)
  level = level_at c.args.rule c.requires.1

  fit : (at : Code.Place) → Next c.args.kernel at c.args.pair → (d : Place) → fits_there c.args.kernel at c.args.rule d ≡ true
  fit at n d = sym (fits_next c.args.rule n c.fits.ensures d) ∙ need_went _ c.fits.result c.need.ensures c.in_ok-need.was

  names : Named c.args.kernel.counts (rule c.args.rule) (rec c.args.pair.array) (rec c.args.pair.stream)
  names =
      let (at, n) = c.requires.2 in
      let d = beginning (held_by c.args.kernel) in
      named_next c.args.kernel at d (rule c.args.rule) level (fit at n d) c.args.pair n

pub fits-requires : goal.fits-requires
fits-requires c =
    let k = c.args.kernel in
    (no_other c.requires.1.no_for, (few k.file.now k.counts k.reads).registers)

pub returns-in_err-need : goal.returns-in_err-need
unfolding misfit ◌>>=◌
returns-in_err-need c =
    let k = c.args.kernel in
    let l = c.args.l.now in
    let stops = answers_so _ c.fits.result c.from_residual.result c.need.ensures c.in_err-need.was c.from_residual.ensures.1 in
    let unfits = need_stopped _ c.fits.result c.need.ensures c.in_err-need.was in
    record {
      as_defined = λ os at o e n.
          unfit k os at l c.args.rule e (sym (fits_next c.args.rule n c.fits.ensures _) ∙ unfits)
          ∙ ap (λ x. Check.at (here k os at l) (x >>= λ _. ok (went 1 (arrays_taken (rule c.args.rule)) 1 os (stepped (held_by k) (rule c.args.rule) (rec c.args.pair.array) (rec c.args.pair.stream) (ledger k.counts.a k.counts.b l)) (here k os at l)))) (sym stops);
      named = no_misfit stops;
      reads_on = no_misfit stops;
    }

pub invariant_of-line : goal.invariant_of-line
invariant_of-line c = record { named = names c }

pub returns : goal.returns
returns c =
    let k = c.args.kernel in
    let l = c.args.l.now in
    let r = rule c.args.rule in
    let fitting = fit (goal.at.returns c).In_ok-need in
    let plain = level (goal.at.returns c).In_ok-need in
    record {
      as_defined = λ os at o e n.
          let asks = c.asked.ensures os at o ∙ (λ i. asked_there (held_by k) (here k os at l) r (n.array_is i) (n.stream_is i)) in
          comes k os at l c.args.rule e (fitting at n _) plain c.asked.result asks
          ∙ (λ i. Check.at (here k os at l) (answered c.asked.result >>= λ _. ok (went 1 (arrays_taken r) 1 os (stepped (held_by k) r (sym n.array_is i) (sym n.stream_is i) (ledger k.counts.a k.counts.b l)) (here k os at l))));
      named = λ z. names (goal.at.returns c).In_ok-need;
      reads_on = λ z at n opens m. rule_reads k at opens m (beginning (held_by k)) r plain (fitting at n _);
    }
