-- `check_walk::check_plain` meets its contract. Invariant: the walk has come here, and at least past the first rule unless the rule here is plain or none.
use Prim.Native.Nat.{◌<◌}
use mathlib.Core.Path.{◌≡◌, refl, sym, subst, ◌∙◌}
use mathlib.Core.Logic.{◌⊎◌, inl, inr}
use native.Mathlib.Omega.{arith}
use borrow.Author.Rules.{rules}
use Rattle.std.proofs.Common.{Ok}
use Rattle.forms.specs.Code.{loops}
use Rattle.check_take.specs.View.{Reached, standing, with_ledger, due, AtRule, PlainOrNone}
use Rattle.check_take.proofs.Came.{same_place}
use Rattle.check_walk.specs.View.{Further, RuleWalked}
use Rattle.check_walk.proofs.Walks.{passed_on, goes_none}
use Rattle.check_walk.proofs.Stretches.{further_none, plain_walked, rule_then}
use Rattle.check_walk.proofs.check_plain.Goals.{After-plain, At-loop-at, In-Ok-If}
use Rattle.check_walk.proofs.check_plain.Goals as goal

-- past the first rule, where the rule here is not plain
past_it : {A B : Type 0} → A ⊎ B → (B → ⊥) → A
past_it (inl a) n = a
past_it (inr b) n = absurd (n b)

-- at a turn it stops here
module _ (c : At-loop-at) where
  walked_here : c.args.from.rule < c.loop-at.at.rule → RuleWalked c.args.kernel (loops c.args.ls) c.args.from c.args.l.now (standing c.loop-at.at c.loop-at.l)
  walked_here h = (c.loop-at.invariant.1, λ to e. subst (λ to. Further c.args.kernel c.args.from to c.loop-at.l × (c.args.from.rule < to.rule)) (same_place e) (c.loop-at.invariant.0, h))

-- the rule here opens or closes a block
module _ (c : In-Ok-If) where
  not_plain : PlainOrNone (due c.args.kernel c.loop-at.at) → ⊥
  not_plain p =
      let q = p c.in-Ok-If.field-0 (sym c.rule_next-next.ensures ∙ c.in-Ok-If.is) in
      search rules

-- another rule has been taken
walked_on : (c : After-plain) → RuleWalked c.args.kernel (loops c.args.ls) c.args.from c.args.l.now (with_ledger c.plain.result c.plain.new.l)
walked_on c =
    let i = c.loop-at.invariant in
    let there : AtRule c.args.kernel.counts c.loop-at.at c.loop-at.l = record { stood = i.0.stood; there = c.loop-at-test.true } in
    rule_then c.args.l.now i.0 i.1 (plain_walked c.args.kernel there c.args.ls c.plain.ensures)

pub loop-at-init : goal.loop-at-init
loop-at-init c =
    (further_none c.requires.0.stood, λ os q. goes_none c.args.kernel os c.args.from c.args.l.now, inr c.requires.2)

pub returns-in-Ok-If : goal.returns-in-Ok-If
returns-in-Ok-If c =
    let at = goal.at.returns-in-Ok-If c in
    walked_here at.At-loop-at (past_it c.loop-at.invariant.2 (not_plain at.In-Ok-If))

pub returns-in_err-at : goal.returns-in_err-at
returns-in_err-at c =
    let p = passed_on c.in_err-at.was c.from_residual.ensures.1 ∙ sym c.in_err-at.was in
    subst (λ r. RuleWalked c.args.kernel (loops c.args.ls) c.args.from c.args.l.now (with_ledger r c.plain.new.l)) (sym p) (walked_on (goal.at.returns-in_err-at c).After-plain)

pub loop-at-preserved : goal.loop-at-preserved
loop-at-preserved c =
    let w = subst (λ r. RuleWalked c.args.kernel (loops c.args.ls) c.args.from c.args.l.now (with_ledger r c.plain.new.l)) c.in_ok-at.was (walked_on (goal.at.loop-at-preserved c).After-plain) in
    let v = w.1 c.in_ok-at.at refl in
    (v.0, w.0, inl v.1)
