-- `check_walk::over` meets its contract: 17 and 18 as the definition finds them where the derivation is over.
use mathlib.Core.Path.{◌≡◌, refl, sym, ap, ◌∙◌}
use mathlib.Core.Bool.{not, ◌&&◌}
use lib.Dec.{leb}
use borrow.Author.Tests.{lt-leb, le-leb}
use Rattle.kernel.specs.declared.refusals.Misfit.TheVariants.{StatementsLeft, BlockOpen}
use Rattle.check_take.proofs.Came.{need_stops, need_goes, refused_so}
use Rattle.check_walk.proofs.Walks.{over_left, over_block, over_stands}
use Rattle.check_walk.proofs.over.Goals.{After-need, then-at-c, else-at-c}
use Rattle.check_walk.proofs.over.Goals as goal

-- whether both programs are over
module _ (c : After-need) where
  done : c.if-at-c.done ≡ (leb c.args.kernel.counts.s c.args.at.array && leb c.args.kernel.counts.t c.args.at.stream)
  done =
      let a = c.args in
      let s = a.kernel.counts.s in
      let t = leb a.kernel.counts.t a.at.stream in
      elim c.if-at-c.branch [
        | then-at-c w ↦ w.done-is ∙ ap (λ u. u && t) (sym (le-leb s a.at.array w.if-at-c.true))
        | else-at-c w ↦ let u = lt-leb s a.at.array w.if-at-c.false in w.done-is ∙ u ∙ ap (λ u. u && t) (sym u)
      ]

pub returns-in_err-need : goal.returns-in_err-need
returns-in_err-need c l =
    let a = c.args in
    let said = c.need.ensures in
    let was = c.in_err-need.was in
    over_left a.kernel a.inside a.at l c.requires c.if-at-c.done (done (goal.at.returns-in_err-need c).After-need) (need_stops a.at StatementsLeft c.if-at-c.done said was) (refused_so a.at StatementsLeft c.if-at-c.done c.from_residual.result said was c.from_residual.ensures.1)

pub returns-in_err-need-2 : goal.returns-in_err-need-2
returns-in_err-need-2 c l =
    let a = c.args in
    let d = c.if-at-c.done in
    let said = c.need-2.ensures in
    let was = c.in_err-need-2.was in
    over_block a.kernel a.inside a.at l c.requires d (done (goal.at.returns-in_err-need-2 c).After-need) (need_goes a.at StatementsLeft d c.need.ensures c.in_ok-need.was) (need_stops a.at BlockOpen (not a.inside) said was) (refused_so a.at BlockOpen (not a.inside) c.from_residual-in_err-need-2.result said was c.from_residual-in_err-need-2.ensures.1)

pub returns : goal.returns
returns c l =
    let a = c.args in
    let d = c.if-at-c.done in
    over_stands a.kernel a.inside a.at l c.requires d (done (goal.at.returns c).After-need) (need_goes a.at StatementsLeft d c.need.ensures c.in_ok-need.was) (need_goes a.at BlockOpen (not a.inside) c.need-2.ensures c.in_ok-need-2.was) refl
