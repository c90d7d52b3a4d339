-- `check_take::leave_if` meets its contract: the rule is an end, the positions are those of the first branch, and the ledgers are merged.
use mathlib.Core.Path.{◌≡◌, refl, sym, ◌∙◌}
use mathlib.Core.Bool.{true}
use mathlib.Core.List.{List, [], ◌∷◌}
use native.Mathlib.Omega.{arith}
use Rattle.forms.specs.Code.{loops}
use Rattle.kernel.specs.Ledger as L
use Rattle.kernel.specs.Derivation.{Opened, in_else}
use Rattle.kernel.specs.Named.{misfit}
use Rattle.kernel.specs.declared.codes.Rule.TheVariants.{End}
use Rattle.parts.proofs.Parts.{few}
use Rattle.check_ledger.specs.View.{ledger}
use Rattle.check_rules.proofs.Needs.{need_fails, need_holds}
use Rattle.check_take.proofs.Came.{refuses, need_stops, need_goes, refused_so, same_place}
use Rattle.check_take.proofs.Taking.{stopped, went_on, closes, not_end, else_stops, else_ends}
use Rattle.check_take.proofs.Standing.{near}
use Rattle.check_take.proofs.Going.{onward_one, end_if_reads}
use Rattle.check_take.proofs.leave_if.Goals.{In_ok-need, Start}
use Rattle.check_take.proofs.leave_if.Goals as goal

module _ (s : Start) where
  abbrev first : L.Ledger
  first = ledger s.args.kernel.counts.a s.args.kernel.counts.b s.args.first.now

  -- in the second branch
  abbrev second : List Opened → List Opened
  second os = in_else first ∷ os

module _ (c : In_ok-need) where
  closed : c.closes.result ≡ true
  closed = need_goes _ _ c.closes.result c.need.ensures c.in_ok-need.was

pub returns-in_err-need : goal.returns-in_err-need
unfolding misfit
returns-in_err-need c =
    let k = c.args.kernel in
    let at = c.args.at in
    let l = c.args.l.now in
    let s = (goal.at.returns-in_err-need c).Start in
    let is = refused_so _ _ c.closes.result c.from_residual.result c.need.ensures c.in_err-need.was c.from_residual.ensures.1 in
    record {
      as_defined = λ os a. stopped k (second s os) at l _ l is (not_end k (second s os) at l c.requires.1 (else_stops k os at l (first s)) c.closes.ensures (need_stops _ _ c.closes.result c.need.ensures c.in_err-need.was));
      onward = λ to. refuses is;
      reads_on = λ to. refuses is;
    }

pub same_positions-requires : goal.same_positions-requires
same_positions-requires c =
    let k = c.args.kernel in
    (few k.file.now k.counts k.reads).arrays

pub returns-in_err-need-2 : goal.returns-in_err-need-2
unfolding misfit
returns-in_err-need-2 c =
    let k = c.args.kernel in
    let at = c.args.at in
    let l = c.args.l.now in
    let s = (goal.at.returns-in_err-need-2 c).Start in
    let said = c.closes.ensures in
    let so = closed (goal.at.returns-in_err-need-2 c).In_ok-need in
    let is = refused_so _ _ c.same_positions.result c.from_residual-in_err-need-2.result c.need-2.ensures c.in_err-need-2.was c.from_residual-in_err-need-2.ensures.1 in
    let differ = sym (c.same_positions.ensures k.counts.b) ∙ need_stops _ _ c.same_positions.result c.need-2.ensures c.in_err-need-2.was in
    record {
      as_defined = λ os a. stopped k (second s os) at l _ l is (closes k (second s os) at l End said so (else_ends k os at l (first s) (loops c.args.around) a ∙ need_fails 16 _ _ differ));
      onward = λ to. refuses is;
      reads_on = λ to. refuses is;
    }

pub merge-requires : goal.merge-requires
merge-requires c =
    let k = c.args.kernel in
    let f = few k.file.now k.counts k.reads in
    (f.arrays, f.buffers)

pub further-requires : goal.further-requires
further-requires c = near c.args.kernel c.requires.0 (omega arith)

pub returns : goal.returns
returns c =
    let k = c.args.kernel in
    let at = c.args.at in
    let l = c.args.l.now in
    let m = c.merge.new.self in
    let s = (goal.at.returns c).Start in
    let said = c.closes.ensures in
    let so = closed (goal.at.returns c).In_ok-need in
    let same = sym (c.same_positions.ensures k.counts.b) ∙ need_goes _ _ c.same_positions.result c.need-2.ensures c.in_ok-need-2.was in
    record {
      as_defined = λ os a. went_on k (second s os) at l _ m 1 refl c.further.ensures c.merge.ensures.0 (closes k (second s os) at l End said so (else_ends k os at l (first s) (loops c.args.around) a ∙ need_holds 16 _ _ same));
      onward = λ to e. onward_one c.requires.0 (c.merge.ensures.1 at.rule c.requires.2 c.requires.0.stood.bounded) (sym (same_place e) ∙ c.further.ensures);
      reads_on = λ to e. end_if_reads k [] at l (sym (same_place e) ∙ c.further.ensures) (said.fits so _);
    }
