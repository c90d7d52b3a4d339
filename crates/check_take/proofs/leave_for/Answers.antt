-- `check_take::leave_for` meets its contract: the rule is an end, the rows hold a step on, and after the loop they hold at its limit.
use Prim.Native.Nat.{ℕ, ◌-◌}
use mathlib.Core.Path.{◌≡◌, refl, sym, ◌∙◌}
use mathlib.Core.Bool.{Bool, true}
use mathlib.Core.List.{List, [], ◌∷◌, ◌++◌}
use native.Mathlib.Omega.{arith}
use borrow.Author.Rules.{rules}
use lib.IntN.{ℤ}
use lib.ListN.{length}
use Rattle.forms.specs.Form as F
use Rattle.forms.specs.Code.{loop, loops}
use Rattle.kernel.specs.Ledger as L
use Rattle.kernel.specs.Derivation as Derivation
use Rattle.kernel.specs.Derivation.{Opened, in_for}
use Rattle.kernel.specs.Named.{misfit}
use Rattle.kernel.specs.declared.codes.Rule.TheVariants.{End}
use Rattle.check_ledger.specs.declared.Ledger.{Ledger}
use Rattle.check_ledger.specs.View.{ledger}
use Rattle.check_rows.specs.Changes.{counted}
use Rattle.check_rules.proofs.Needs.{need_fails, need_holds}
use Rattle.check_take.proofs.Came.{refuses, need_stops, need_goes, refused_so, same_place}
use Rattle.check_take.proofs.Taking.{stopped, went_on, closes, not_end, for_stops, for_ends}
use Rattle.check_take.proofs.Standing.{near}
use Rattle.check_take.proofs.Going.{onward_one, end_for_reads}
use Rattle.check_take.proofs.Limit.{step_as, sum_fits, limit_as, limit_small}
use Rattle.check_take.proofs.Entering.{level_inside}
use Rattle.check_take.proofs.leave_for.Goals.{After-are_true, After-leave, In_ok-need, Start}
use Rattle.check_take.proofs.leave_for.Goals as goal

module _ (s : Start) where
  abbrev rows : L.Ledger
  rows = ledger s.args.kernel.counts.a s.args.kernel.counts.b s.args.rows.ledger.now

  abbrev level : ℕ
  level = s.args.inside.count - 1

  -- inside the for
  abbrev body : List Opened → List Opened
  body os = in_for (loop s.args.own) rows ∷ os

  level_is : (os : List Opened) → Derivation.loops os ++ loop s.args.own ∷ [] ≡ loops s.args.inside → length (Derivation.loops os) ≡ level
  level_is os e =
      let long : length s.args.inside.levels ≡ 4 = search rules in
      level_inside s.args.inside long (Derivation.loops os) (loop s.args.own) s.requires.6 e

module _ (c : In_ok-need) where
  closed : c.closes.result ≡ true
  closed = need_goes _ _ c.closes.result c.need.ensures c.in_ok-need.was

-- the second test is whether the rows hold a step on
module _ (c : After-are_true) where
  abbrev tested : (a b : ℕ) → ℤ → Bool
  tested a b z = L.rows_true (loops c.args.inside) (L.each (F.moved_by (c.args.inside.count - 1) z) (ledger a b c.args.rows.ledger.now)) (ledger a b c.args.l.now)

  held : c.are_true.result ≡ tested c.args.kernel.counts.a c.args.kernel.counts.b c.args.own.step
  unfolding counted
  held = c.are_true.ensures ∙ (λ i. tested (c.requires.2 i) (c.requires.3 i) (step_as c.args.own c.requires.4 i))

-- after the loop they hold at its limit
module _ (c : After-leave) where
  abbrev left : Ledger
  left = c.leave.new.l

  abbrev put : (a b : ℕ) → ℤ → L.Ledger
  put a b z = L.each (F.put_at (c.args.inside.count - 1) z) (ledger a b c.args.rows.ledger.now)

  at_limit : ledger c.args.kernel.counts.a c.args.kernel.counts.b left ≡ put c.args.kernel.counts.a c.args.kernel.counts.b (F.limit (loop c.args.own))
  unfolding counted
  at_limit =
      (λ i. ledger (sym c.requires.2 i) (sym c.requires.3 i) left) ∙ c.leave.ensures.0 ∙ (λ i. put (c.requires.2 i) (c.requires.3 i) (limit_as c.args.own c.requires.4 i))

pub returns-in_err-need : goal.returns-in_err-need
unfolding misfit
returns-in_err-need c =
    let k = c.args.kernel in
    let at = c.args.at in
    let l = c.args.l.now in
    let s = (goal.at.returns-in_err-need c).Start in
    let is = refused_so _ _ c.closes.result c.from_residual.result c.need.ensures c.in_err-need.was c.from_residual.ensures.1 in
    record {
      as_defined = λ os a. stopped k (body s os) at l _ l is (not_end k (body s os) at l c.requires.1 (for_stops k os at l (loop c.args.own) (rows s)) c.closes.ensures (need_stops _ _ c.closes.result c.need.ensures c.in_err-need.was));
      onward = λ to. refuses is;
      reads_on = λ to. refuses is;
    }

pub returns-in_err-need-2 : goal.returns-in_err-need-2
unfolding misfit
returns-in_err-need-2 c =
    let k = c.args.kernel in
    let at = c.args.at in
    let l = c.args.l.now in
    let own = loop c.args.own in
    let g = goal.at.returns-in_err-need-2 c in
    let is = refused_so _ _ c.are_true.result c.from_residual-in_err-need-2.result c.need-2.ensures c.in_err-need-2.was c.from_residual-in_err-need-2.ensures.1 in
    let untrue = sym (held g.After-are_true) ∙ need_stops _ _ c.are_true.result c.need-2.ensures c.in_err-need-2.was in
    record {
      as_defined = λ os a. stopped k (body g.Start os) at l _ l is (closes k (body g.Start os) at l End c.closes.ensures (closed g.In_ok-need) (for_ends k os at l own (rows g.Start) (level g.Start) (loops c.args.inside) (level_is g.Start os a) a ∙ need_fails 15 _ _ untrue));
      onward = λ to. refuses is;
      reads_on = λ to. refuses is;
    }

pub overflow_add-limit : goal.overflow_add-limit
overflow_add-limit c = sum_fits c.args.own c.requires.4

pub invariant_of-limit : goal.invariant_of-limit
invariant_of-limit c = record { small = limit_small c.args.own c.requires.4 }

pub further-requires : goal.further-requires
further-requires c = near c.args.kernel c.requires.0 (omega arith)

pub returns : goal.returns
returns c =
    let k = c.args.kernel in
    let at = c.args.at in
    let l = c.args.l.now in
    let own = loop c.args.own in
    let g = goal.at.returns c in
    let m = left g.After-leave in
    let said = c.closes.ensures in
    let so = closed g.In_ok-need in
    let true_on = sym (held g.After-are_true) ∙ need_goes _ _ c.are_true.result c.need-2.ensures c.in_ok-need-2.was in
    record {
      as_defined = λ os a. went_on k (body g.Start os) at l _ m 1 refl c.further.ensures (at_limit g.After-leave) (closes k (body g.Start os) at l End said so (for_ends k os at l own (rows g.Start) (level g.Start) (loops c.args.inside) (level_is g.Start os a) a ∙ need_holds 15 _ _ true_on));
      onward = λ to e. onward_one c.requires.0 (c.leave.ensures.1 at.rule c.requires.0.stood.bounded) (sym (same_place e) ∙ c.further.ensures);
      reads_on = λ to e. end_for_reads k [] at l (sym (same_place e) ∙ c.further.ensures) (said.fits so _);
    }
