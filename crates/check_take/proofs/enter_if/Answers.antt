-- `check_take::enter_if` meets its contract: the rule fits, and the ledger stays.
use mathlib.Core.Path.{◌≡◌, refl, sym, ◌∙◌}
use mathlib.Core.Bool.{true}
use mathlib.Core.List.{[]}
use native.Mathlib.Omega.{arith}
use Rattle.kernel.specs.Derivation.{Place}
use Rattle.kernel.specs.Named.{misfit}
use Rattle.kernel.specs.declared.codes.Rule.TheVariants.{If}
use Rattle.parts.proofs.Parts.{few}
use Rattle.check_take.specs.View.{fits_there}
use Rattle.check_take.proofs.Came.{refuses, need_stops, need_goes, refused_so, same_place}
use Rattle.check_take.proofs.Comes.{fits_next, unfit, fit}
use Rattle.check_take.proofs.Taking.{stopped, went_on, if_opens}
use Rattle.check_take.proofs.Standing.{near}
use Rattle.check_take.proofs.Going.{onward_one, if_reads}
use Rattle.check_take.proofs.enter_if.Goals as goal

pub fits-fits-requires : goal.fits-fits-requires
fits-fits-requires c =
    let k = c.args.kernel in
    ((λ e. absurd (cc)), (few k.file.now k.counts k.reads).registers)

pub returns-in_err-need : goal.returns-in_err-need
unfolding misfit
returns-in_err-need c l there =
    let k = c.args.kernel in
    let at = c.args.at in
    let is = refused_so _ _ c.fits-fits.result c.from_residual.result c.need.ensures c.in_err-need.was c.from_residual.ensures.1 in
    let unfits = need_stops _ _ c.fits-fits.result c.need.ensures c.in_err-need.was in
    record {
      as_defined = λ os. stopped k os at l _ l is (unfit k os at l If c.requires.1 (sym (fits_next If c.pair_next.ensures c.fits-fits.ensures _) ∙ unfits));
      onward = λ to. refuses is;
      reads_on = λ to. refuses is;
    }

pub further-requires : goal.further-requires
further-requires c = near c.args.kernel c.requires.0.1 (omega arith)

pub returns : goal.returns
returns c l there =
    let k = c.args.kernel in
    let at = c.args.at in
    let fits = need_goes _ _ c.fits-fits.result c.need.ensures c.in_ok-need.was in
    let f : (d : Place) → fits_there k at If d ≡ true = λ d. sym (fits_next If c.pair_next.ensures c.fits-fits.ensures d) ∙ fits in
    record {
      as_defined = λ os. went_on k os at l _ l 1 refl c.further.ensures refl (fit k os at l If c.requires.1 (f _) (if_opens k os at l));
      onward = λ to e. onward_one there there.stood.bounded (sym (same_place e) ∙ c.further.ensures);
      reads_on = λ to e. if_reads k [] at l (sym (same_place e) ∙ c.further.ensures) (f _);
    }
