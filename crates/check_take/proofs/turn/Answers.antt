-- `check_take::turn` meets its contract: the rule is an else, and the ledger is the one at the if.
use mathlib.Core.Path.{refl, sym, ◌∙◌}
use mathlib.Core.List.{[], ◌∷◌}
use native.Mathlib.Omega.{arith}
use Rattle.kernel.specs.Derivation.{in_if}
use Rattle.kernel.specs.Named.{misfit}
use Rattle.kernel.specs.declared.codes.Rule.TheVariants.{Else}
use Rattle.check_ledger.specs.View.{ledger}
use Rattle.check_take.proofs.Came.{refuses, need_stops, need_goes, refused_so, same_place}
use Rattle.check_take.proofs.Taking.{stopped, went_on, closes, not_else, if_stops, if_turns}
use Rattle.check_take.proofs.Standing.{near}
use Rattle.check_take.proofs.Going.{onward_one, else_reads}
use Rattle.check_take.proofs.turn.Goals as goal

pub returns-in_err-need : goal.returns-in_err-need
unfolding misfit
returns-in_err-need c l m there small =
    let k = c.args.kernel in
    let at = c.args.at in
    let start = ledger k.counts.a k.counts.b m in
    let is = refused_so _ _ c.closes.result c.from_residual.result c.need.ensures c.in_err-need.was c.from_residual.ensures.1 in
    record {
      as_defined = λ os.
          let o = in_if start ∷ os in
          stopped k o at l _ m is (not_else k o at l c.requires.1 (if_stops k os at l start) c.closes.ensures (need_stops _ _ c.closes.result c.need.ensures c.in_err-need.was));
      onward = λ to. refuses is;
      reads_on = λ to. refuses is;
    }

pub further-requires : goal.further-requires
further-requires c = near c.args.kernel c.requires.0.1 (omega arith)

pub returns : goal.returns
returns c l m there small =
    let k = c.args.kernel in
    let at = c.args.at in
    let start = ledger k.counts.a k.counts.b m in
    let said = c.closes.ensures in
    let so = need_goes _ _ c.closes.result c.need.ensures c.in_ok-need.was in
    record {
      as_defined = λ os.
          let o = in_if start ∷ os in
          went_on k o at l _ m 1 refl c.further.ensures refl (closes k o at l Else said so (if_turns k os at l start));
      onward = λ to e. onward_one there small (sym (same_place e) ∙ c.further.ensures);
      reads_on = λ to e. else_reads k [] at l (sym (same_place e) ∙ c.further.ensures) (said.fits so _);
    }
