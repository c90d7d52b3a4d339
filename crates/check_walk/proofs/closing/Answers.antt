-- `check_walk::closing` meets its contract: a stray else or end fits no rule.
use mathlib.Core.Path.{refl}
use Rattle.kernel.specs.declared.refusals.Misfit.TheVariants.{DoesNotFit}
use Rattle.check_take.proofs.Came.{need_stops, need_goes, refused_so}
use Rattle.check_walk.proofs.Walks.{stray, closes}
use Rattle.check_walk.proofs.closing.Goals as goal

pub returns-in_err-need : goal.returns-in_err-need
returns-in_err-need c k l there code =
    let a = c.args in
    let said = c.need.ensures in
    let was = c.in_err-need.was in
    stray k a.inside a.at l there code (need_stops a.at DoesNotFit a.inside said was) (refused_so a.at DoesNotFit a.inside c.from_residual.result said was c.from_residual.ensures.1)

pub returns : goal.returns
returns c k l there code =
    let a = c.args in
    closes k a.inside a.at l there code (need_goes a.at DoesNotFit a.inside c.need.ensures c.in_ok-need.was) refl
