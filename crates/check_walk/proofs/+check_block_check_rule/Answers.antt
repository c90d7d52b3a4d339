-- The cycle {check_block, check_rule, check_for, check_if} meets its contracts, by the laws of `Walks` and `Stretches`.
use Prim.Native.Nat.{ℕ}
use mathlib.Core.Path.{◌≡◌, refl, sym, ap, subst, ◌∙◌}
use mathlib.Core.Logic.{◌⊎◌, inl, inr}
use mathlib.Core.List.{◌∷◌}
use native.Mathlib.Omega.{arith}
use Rattle.std.proofs.Common.{Ok}
use Rattle.forms.specs.Code.{loop, loops}
use Rattle.kernel.specs.File.{loop_of}
use Rattle.kernel.specs.Reading.{open_if}
use Rattle.kernel.specs.Guarantees.{LoopFits}
use Rattle.kernel.specs.declared.codes.Rule.{Rule}
use Rattle.kernel.specs.declared.codes.Rule.TheVariants.{Else, End}
use Rattle.parts.specs.declared.Kernel.{Kernel}
use Rattle.parts.proofs.Parts.{few}
use Rattle.parts.proofs.Room.{loop_room}
use Rattle.check_take.specs.declared.Place.{Place}
use Rattle.check_ledger.proofs.Bounds.{bounded_wider}
use Rattle.check_take.specs.View.{standing, with_ledger, due, loop_there, Closing, Enters, EnteredFor, Turned}
use Rattle.check_take.proofs.Came.{refuses}
use Rattle.check_walk.specs.View.{RuleWalked}
use Rattle.check_walk.proofs.Walks.{passed_on, goes_none, goes_then, goes_missing}
use Rattle.check_walk.proofs.Stretches.{further_none, rule_then, block_then, opens_for, opens_if, opens_else, closes_inside, stops_inside, for_taken, for_entered, for_body, for_left, if_entered, if_first, if_turned, if_second, if_left}
use Rattle.check_walk.proofs.+check_block_check_rule.Goals.{check_block-After-check_rule, check_rule-In_ok-body-in-For, check_for-Start, check_for-After-for_loop-own, check_if-After-turn}
use Rattle.check_walk.proofs.+check_block_check_rule.Goals as goal

-- ---- a block

closing_there : (k : Kernel) (at : Place) {r : Rule} → due k at ≡ Ok r → (r ≡ Else) ⊎ (r ≡ End) → Closing k at
closing_there k at e (inl s) = inl (e ∙ ap (λ r. Ok r) s)
closing_there k at e (inr s) = inr (e ∙ ap (λ r. Ok r) s)

-- a rule has been taken
walked_on : (t : ℕ) (c : check_block-After-check_rule t) → RuleWalked c.args.kernel (loops c.args.ls) c.args.from c.args.l.now (with_ledger c.check_rule.result c.check_rule.new.l)
walked_on t c =
    let i = c.loop-at.invariant in
    rule_then c.args.l.now i.0 i.1 c.check_rule.ensures

pub check_block-loop-at-init : goal.check_block-loop-at-init
check_block-loop-at-init t c =
    (further_none c.requires.0, λ os q. goes_none c.args.kernel os c.args.from c.args.l.now)

pub check_block-returns-in_err-rule : goal.check_block-returns-in_err-rule
check_block-returns-in_err-rule t c =
    let a = c.args in
    let p = passed_on c.in_err-rule.was c.from_residual.ensures.1 in
    let missing = sym c.rule_next.ensures ∙ c.in_err-rule.was in (
      (λ os q o. goes_then a.kernel os os os a.from a.l.now _ _ (c.loop-at.invariant.1 os q) refl (goes_missing a.kernel os c.loop-at.at c.loop-at.l _ c.loop-at-test.true missing p)),
      λ to e. refuses p e,
    )

pub check_block-returns-in-Else : goal.check_block-returns-in-Else
check_block-returns-in-Else t c =
    let i = c.loop-at.invariant in
    let code = closing_there c.args.kernel c.loop-at.at (sym c.rule_next.ensures ∙ c.in_ok-rule.was) c.in-Else.is in
    block_then c.args.l.now i.0 i.1 c.args.inside (c.closing.ensures c.args.kernel c.loop-at.l c.loop-at-test.true code)

pub check_block-returns-in_err-at-in_default : goal.check_block-returns-in_err-at-in_default
check_block-returns-in_err-at-in_default t c =
    let was = c.in_err-at-in_default.was in
    let p = passed_on was c.from_residual-in_err-at-in_default.ensures.1 in
    let w = subst (λ r. RuleWalked c.args.kernel (loops c.args.ls) c.args.from c.args.l.now (with_ledger r c.check_rule.new.l)) (was ∙ sym p) (walked_on t (goal.at.check_block-returns-in_err-at-in_default t c).After-check_rule) in
    ((λ os q o. w.0 os q), λ to e. refuses p e)

pub check_block-loop-at-preserved : goal.check_block-loop-at-preserved
check_block-loop-at-preserved t c =
    let w = subst (λ r. RuleWalked c.args.kernel (loops c.args.ls) c.args.from c.args.l.now (with_ledger r c.check_rule.new.l)) c.in_ok-at-in_default.was (walked_on t (goal.at.check_block-loop-at-preserved t c).After-check_rule) in
    ((w.1 c.in_ok-at-in_default.at refl).0, w.0)

pub check_block-returns : goal.check_block-returns
check_block-returns t c =
    let i = c.loop-at.invariant in
    block_then c.args.l.now i.0 i.1 c.args.inside (c.over.ensures c.loop-at.l)

-- ---- a for

pub check_rule-returns-in_err-body-in-For : goal.check_rule-returns-in_err-body-in-For
check_rule-returns-in_err-body-in-For t c =
    let k = c.args.kernel in
    let b = c.requires.0 in
    let was = c.in_err-body-in-For.was in
    let in_it = with_ledger c.enter_for.result c.enter_for.new.l in
    stops_inside k b c.args.ls in_it _ _ (for_entered k b c.args.ls (for_taken c.enter_for.ensures)) was (passed_on was c.from_residual.ensures.1)

-- entered
module _ (t : ℕ) (c : check_rule-In_ok-body-in-For t) where
  entered_there : EnteredFor c.args.kernel c.args.at c.args.l.now (loops c.args.ls) (standing c.in_ok-body-in-For.body c.enter_for.new.l)
  entered_there = subst (λ r. EnteredFor c.args.kernel c.args.at c.args.l.now (loops c.args.ls) (with_ledger r c.enter_for.new.l)) c.in_ok-body-in-For.was c.enter_for.ensures

pub check_rule-check_for-requires : goal.check_rule-check_for-requires
check_rule-check_for-requires t c =
    let E = entered_there t (goal.at.check_rule-check_for-requires t c).In_ok-body-in-For in
    (omega (arith, c.decreases), ((c.args.l.now, c.requires.0, E), c.requires.1, c.requires.2, c.requires.3))

pub check_rule-returns-in_ok-body-in-For : goal.check_rule-returns-in_ok-body-in-For
check_rule-returns-in_ok-body-in-For t c =
    c.check_for.ensures c.args.l.now c.requires.0 (entered_there t (goal.at.check_rule-returns-in_ok-body-in-For t c).In_ok-body-in-For)

module _ (t : ℕ) (c : check_for-Start t) where
  for_enters : Enters c.args.kernel c.requires.3.opens c.args.at c.args.body
  for_enters = c.requires.0.2.enters c.args.body refl c.requires.3.opens c.requires.3.reads_on

-- its loop has been read
module _ (t : ℕ) (c : check_for-After-for_loop-own t) where
  for_same : loop c.for_loop-own.result ≡ loop_there c.args.kernel c.args.at
  for_same = c.for_loop-own.ensures ∙ ap loop_of c.array_next.ensures

  for_fits : LoopFits (loop c.for_loop-own.result)
  for_fits = subst LoopFits (sym for_same) (c.requires.0.2.enters c.args.body refl c.requires.3.opens c.requires.3.reads_on).fits

pub check_for-deeper-inner-requires : goal.check_for-deeper-inner-requires
check_for-deeper-inner-requires t c =
    let at = goal.at.check_for-deeper-inner-requires t c in
    (omega (arith, (for_enters t at.Start).room, c.requires.3.level), c.requires.1, loop_room c.for_loop-own.result (for_fits t at.After-for_loop-own))

pub check_for-check_block-requires : goal.check_for-check_block-requires
check_for-check_block-requires t c =
    let d = c.deeper-inner in
    let enters = for_enters t (goal.at.check_for-check_block-requires t c).Start in
    let on = c.requires.0.2.onward c.args.body refl in (
      omega (arith, c.decreases, on.further_on, c.requires.0.1.there),
      (on.stood, d.ensures.1, omega (arith, d.ensures.2, enters.room, c.requires.3.level), opens_for c.requires.3 enters d.ensures.2),
    )

pub check_for-returns-in_err-end : goal.check_for-returns-in_err-end
check_for-returns-in_err-end t c start there E =
    let at = goal.at.check_for-returns-in_err-end t c in
    let k = c.args.kernel in
    let v = c.check_block in
    let end = with_ledger v.result v.new.l in
    let was = c.in_err-end.was in
    stops_inside k there c.args.ls end _ _ (for_body k there c.args.ls (for_taken E) c.deeper-inner.result c.for_loop-own.result (for_same t at.After-for_loop-own) c.deeper-inner.ensures.0 refl end v.ensures) was (passed_on was c.from_residual.ensures.1)

pub check_for-invariant_of-rows : goal.check_for-invariant_of-rows
check_for-invariant_of-rows t c =
    let m = few c.args.kernel.file.now c.args.kernel.counts c.args.kernel.reads in
    record { stated = c.requires.0.2.stated c.args.body refl; few_arrays = m.arrays; few_buffers = m.buffers }

pub check_for-leave_for-requires : goal.check_for-leave_for-requires
check_for-leave_for-requires t c =
    let at = goal.at.check_for-leave_for-requires t c in
    let (there, code) = closes_inside (c.check_block.ensures.1 c.in_ok-end.end c.in_ok-end.was) in
    let d = c.deeper-inner.ensures.2 in
    (there, code, refl, refl, for_fits t at.After-for_loop-own, omega (arith, d), omega (arith, d, (for_enters t at.Start).room, c.requires.3.level))

pub check_for-returns : goal.check_for-returns
check_for-returns t c start there E =
    let at = goal.at.check_for-returns t c in
    let v = c.check_block in
    for_left c.args.kernel there c.args.ls (for_taken E) c.deeper-inner.result c.for_loop-own.result (for_same t at.After-for_loop-own) c.deeper-inner.ensures.0 refl (with_ledger v.result v.new.l) v.ensures c.in_ok-end.was c.leave_for.ensures

-- ---- an if

pub check_if-returns-in_err-branch : goal.check_if-returns-in_err-branch
check_if-returns-in_err-branch t c =
    let k = c.args.kernel in
    let b = c.requires.0 in
    let l = c.args.l.now in
    let was = c.in_err-branch.was in
    stops_inside k b c.args.ls (with_ledger c.enter_if.result l) _ _ (if_entered k b c.args.ls (c.enter_if.ensures l b)) was (passed_on was c.from_residual.ensures.1)

pub check_if-check_block-requires : goal.check_if-check_block-requires
check_if-check_block-requires t c =
    let p = c.requires in
    let branch = c.in_ok-branch in
    let E = c.enter_if.ensures c.args.l.now p.0 in
    let on = E.onward branch.branch branch.was in (
      omega (arith, c.decreases, on.further_on, p.0.there),
      (on.stood, p.1, p.2, opens_if p.3 (E.reads_on branch.branch branch.was p.3.opens p.3.reads_on)),
    )

-- what its first branch comes to
pub check_if-returns-in_err-middle : goal.check_if-returns-in_err-middle
check_if-returns-in_err-middle t c =
    let k = c.args.kernel in
    let b = c.requires.0 in
    let v = c.check_block in
    let end = with_ledger v.result v.new.l in
    let was = c.in_err-middle.was in
    stops_inside k b c.args.ls end _ _ (if_first k b c.args.ls (c.enter_if.ensures c.args.l.now b) c.in_ok-branch.was end v.ensures) was (passed_on was c.from_residual-in_err-middle.ensures.1)

pub check_if-turn-requires : goal.check_if-turn-requires
check_if-turn-requires t c =
    let (there, code) = closes_inside (c.check_block.ensures.1 c.in_ok-middle.middle c.in_ok-middle.was) in
    ((_, there), code)

-- what turning it comes to: the ledger is the one at the if
module _ (t : ℕ) (c : check_if-After-turn t) where
  turns : Turned c.args.kernel c.in_ok-middle.middle c.check_block.new.l c.args.l.now (with_ledger c.turn.result c.args.l.now)
  turns =
      let l = c.args.l.now in
      let v = c.check_block in
      let walked = v.ensures.1 c.in_ok-middle.middle c.in_ok-middle.was in
      c.turn.ensures v.new.l l (closes_inside walked).0
      (bounded_wider c.requires.0.stood.bounded (omega (arith, ((c.enter_if.ensures l c.requires.0).onward c.in_ok-branch.branch c.in_ok-branch.was).further_on, walked.0.further_on)))

pub check_if-returns-in_err-other : goal.check_if-returns-in_err-other
check_if-returns-in_err-other t c =
    let at = goal.at.check_if-returns-in_err-other t c in
    let k = c.args.kernel in
    let b = c.requires.0 in
    let v = c.check_block in
    let was = c.in_err-other.was in
    stops_inside k b c.args.ls (with_ledger c.turn.result c.args.l.now) _ _ (if_turned k b c.args.ls (c.enter_if.ensures c.args.l.now b) c.in_ok-branch.was (with_ledger v.result v.new.l) v.ensures c.in_ok-middle.was (turns t at.After-turn)) was (passed_on was c.from_residual-in_err-other.ensures.1)

pub check_if-check_block-requires-2 : goal.check_if-check_block-requires-2
check_if-check_block-requires-2 t c =
    let at = goal.at.check_if-check_block-requires-2 t c in
    let p = c.requires in
    let opens = p.3 in
    let branch = c.in_ok-branch in
    let E = c.enter_if.ensures c.args.l.now p.0 in
    let f = (c.check_block.ensures.1 c.in_ok-middle.middle c.in_ok-middle.was).0 in
    let T = turns t at.After-turn in
    let other = c.in_ok-other in
    let on = T.onward other.other other.was in
    let reads = T.reads_on other.other other.was opens.opens (f.reads_on (open_if ∷ opens.opens) (E.reads_on branch.branch branch.was opens.opens opens.reads_on)) in (
      omega (arith, c.decreases, (E.onward branch.branch branch.was).further_on, f.further_on, on.further_on, p.0.there),
      (on.stood, p.1, p.2, opens_else opens reads),
    )

-- what its second branch comes to
pub check_if-returns-in_err-last : goal.check_if-returns-in_err-last
check_if-returns-in_err-last t c =
    let at = goal.at.check_if-returns-in_err-last t c in
    let k = c.args.kernel in
    let b = c.requires.0 in
    let v = c.check_block in
    let u = c.check_block-2 in
    let end = with_ledger u.result u.new.l in
    let was = c.in_err-last.was in
    stops_inside k b c.args.ls end _ _ (if_second k b c.args.ls (c.enter_if.ensures c.args.l.now b) c.in_ok-branch.was (with_ledger v.result v.new.l) v.ensures c.in_ok-middle.was (turns t at.After-turn) c.in_ok-other.was end u.ensures) was (passed_on was c.from_residual-in_err-last.ensures.1)

pub check_if-leave_if-requires : goal.check_if-leave_if-requires
check_if-leave_if-requires t c =
    let at = goal.at.check_if-leave_if-requires t c in
    let walked = c.check_block-2.ensures.1 c.in_ok-last.last c.in_ok-last.was in
    let (there, code) = closes_inside walked in
    let first = (c.check_block.ensures.1 c.in_ok-middle.middle c.in_ok-middle.was).0 in
    let on = (turns t at.After-turn).onward c.in_ok-other.other c.in_ok-other.was in
    (there, code, bounded_wider first.stood.bounded (omega (arith, on.further_on, walked.0.further_on)))

pub check_if-returns : goal.check_if-returns
check_if-returns t c =
    let at = goal.at.check_if-returns t c in
    let b = c.requires.0 in
    let v = c.check_block in
    let u = c.check_block-2 in
    if_left c.args.kernel b c.args.ls (c.enter_if.ensures c.args.l.now b) c.in_ok-branch.was (with_ledger v.result v.new.l) v.ensures c.in_ok-middle.was (turns t at.After-turn) c.in_ok-other.was (with_ledger u.result u.new.l) u.ensures c.in_ok-last.was c.leave_if.ensures
