-- The cycle {run_block, run_statement, run_loop, run_branch} meets its contracts, by the laws of `Runs` and `Standing`.
use Rattle.std.specs.Prelude.{Ok}
use Prim.Native.Nat.{ℕ, ◌+◌, ◌≤◌}
use mathlib.Core.Path.{◌≡◌, sym, ap, subst, ◌∙◌}
use mathlib.Core.List.{List}
use native.Mathlib.Omega.{arith}
use lib.ListN.{length}
use Rattle.numbers.specs.Result.{Result}
use Rattle.numbers.specs.Words.{words}
use Rattle.forms.specs.Form.{Loop}
use Rattle.forms.specs.Code.{loop}
use Rattle.kernel.specs.File as File
use Rattle.kernel.specs.File.{Rec}
use Rattle.kernel.specs.Blocks.{said, StopsAt, at_an_else, at_an_end}
use Rattle.kernel.specs.Machine as Machine
use Rattle.kernel.specs.Machine.{Layout, State, Stuck, in_pass, run}
use Rattle.kernel.specs.Trees.{tree_at}
use Rattle.kernel.proofs.Sayings.{said_there}
use Rattle.parts.specs.declared.RecordTable.{RecordTable}
use Rattle.parts.specs.declared.statements.Statement.{Statement}
use Rattle.parts.specs.declared.statements.Statement.TheVariants.{Else, End}
use Rattle.parts.specs.Statements.{op, statement, stated}
use Rattle.parts.specs.Tables.{rows}
use Rattle.parts.proofs.Records.{count_is}
use Rattle.run_loops.specs.declared.Counters.{Counters}
use Rattle.run_loops.specs.View.{counters, CountersSmall}
use Rattle.run_ops.specs.States.{state, stopped}
use Rattle.run_ops.specs.Layout.{layout}
use Rattle.run_blocks.specs.View.{Stands, Due, placed, ran, head, taken}
use Rattle.run_blocks.proofs.Runs.{Going, going, run_stops, head_stops, nothing_said, went, stuck_there, handed, went_on, placed_ran, placed_ok, placed_err, speaks, pass_next, pass_all}
use Rattle.run_blocks.proofs.Standing.{next_stands, performs, plain_runs, loop_fits, loop_deep, loop_level, body_stands, loop_runs, if_register, if_deep, if_block, if_stands, if_sticks, if_runs}
use mathlib.Core.Logic.{◌⊎◌, inl, inr}
use Rattle.run_blocks.proofs.+run_block_run_statement.Goals.{run_block-In-Ok, run_block-Else-matches, run_block-in-Else, run_block-in_default-matches, run_statement-In-Does}
use Rattle.run_blocks.proofs.+run_block_run_statement.Goals as goal

-- there are few records
few : (r : RecordTable) → length (rows r) ≤ 1024
few r = omega (arith, count_is r.file.now r.part, r.lies.few)

-- an else or an end closes a block
closes : {rs : List Rec} {i : ℕ} (s : Statement) → said rs i ≡ statement s → (s ≡ Else) ⊎ (s ≡ End) → StopsAt rs i
unfolding statement
closes s z (inl e) = at_an_else (z ∙ ap statement e)
closes s z (inr e) = at_an_end (z ∙ ap statement e)

-- ---- a block, where a statement was read

says : (t : ℕ) (c : run_block-In-Ok t) → said (rows c.args.records) c.loop-s.i ≡ statement c.in-Ok.s
unfolding stated
says t c = sym c.in-Ok.ensures

due : (t : ℕ) (c : run_block-In-Ok t) → Due (rows c.args.records) c.loop-s.i (statement c.in-Ok.s) c.args.a.now
due t c =
    record { there = said_there (rows c.args.records) c.loop-s.i (says t c) (speaks c.in-Ok.s); says = says t c; stands = c.loop-s.invariant.1 c.requires.0 }

-- it is no else and no end
goes : (t : ℕ) (c : run_block-Else-matches t) (d : Due (rows c.args.records) c.loop-s.i (statement c.in-Ok.s) c.args.a.now)
    → Going (rows c.args.records) c.loop-s.i d.stands.begins (layout c.args.arrays.now) (counters c.args.a.now)
goes t c d =
    let by : (c.in-Ok.s ≡ Else → ⊥) → (c.in-Ok.s ≡ End → ⊥) → Going (rows c.args.records) c.loop-s.i d.stands.begins (layout c.args.arrays.now) (counters c.args.a.now) =
    going (rows c.args.records) c.loop-s.i d.stands.begins d.there (layout c.args.arrays.now) (counters c.args.a.now) c.in-Ok.s d.says in
    elim c.match-matches.branch [
      | run_block-in-Else w ↦ absurd (cc (c.if-matches.false, w.matches-is))
      | run_block-in_default-matches w ↦ by w.in_default-matches.not-Else w.in_default-matches.not-End
    ]

pub run_block-run_statement-requires : goal.run_block-run_statement-requires
run_block-run_statement-requires t c =
    let d = due t (goal.at.run_block-run_statement-requires t c).In-Ok in
    (omega (arith, c.decreases), (d, c.requires.1, c.loop-s.invariant.0))

pub run_block-returns-in_err-run_statement : goal.run_block-returns-in_err-run_statement
run_block-returns-in_err-run_statement t c =
    let at = goal.at.run_block-returns-in_err-run_statement t c in
    let v = c.loop-s in
    let r = c.run_statement in
    let g = goes t at.Else-matches (due t at.In-Ok) in
    let after = state r.new.machine (words r.new.output) in
    let e = c.in_err-run_statement.ensures in
    (handed c.from_residual.result _ after c.from_residual.ensures.1 ∙ stuck_there after _ _ _ (g.runs (state v.machine (words v.output))) _ e.0 ∙ sym v.invariant.2, e.1)

pub run_block-next_of-i-requires : goal.run_block-next_of-i-requires
run_block-next_of-i-requires t c =
    let d = due t (goal.at.run_block-next_of-i-requires t c).In-Ok in
    (sym d.says, d.there, d.stands.begins)

pub run_block-loop-s-smaller : goal.run_block-loop-s-smaller
run_block-loop-s-smaller t c =
    let at = goal.at.run_block-loop-s-smaller t c in
    let d = due t at.In-Ok in
    let g = goes t at.Else-matches d in
    omega (arith, g.later, c.next_of-i.ensures, d.there, count_is c.args.records.file.now c.args.records.part)

pub run_block-loop-s-preserved : goal.run_block-loop-s-preserved
run_block-loop-s-preserved t c =
    let at = goal.at.run_block-loop-s-preserved t c in
    let a = c.args in
    let v = c.loop-s in
    let r = c.run_statement in
    let rs = rows a.records in
    let e = layout a.arrays.now in
    let d = due t at.In-Ok in
    let g = goes t at.Else-matches d in
    let after = state r.new.machine (words r.new.output) in
    let next = sym c.next_of-i.ensures in (
      c.in_ok-run_statement.ensures.1,
      (λ _. subst (λ i. Stands rs i a.a.now) next (next_stands d.stands d.there g)),
      v.invariant.2
          ∙ went after _ _ _ (g.runs (state v.machine (words v.output))) c.in_ok-run_statement.ensures.0
          ∙ ap (λ i. run e (tree_at rs i) (counters a.a.now) after) next,
    )

pub run_block-returns-then-matches : goal.run_block-returns-then-matches
run_block-returns-then-matches t c =
    let at = goal.at.run_block-returns-then-matches t c in
    let a = c.args in
    let v = c.loop-s in
    let s = state v.machine (words v.output) in
    let d = due t at.In-Ok in
    let closing : StopsAt (rows a.records) v.i = elim c.match-matches.branch [
      | run_block-in-Else w ↦ closes _ d.says w.in-Else.is
      | run_block-in_default-matches w ↦ absurd (cc (c.if-matches.true, w.matches-is))
    ] in
    (went_on s ∙ run_stops (rows a.records) v.i d.stands.begins closing (layout a.arrays.now) (counters a.a.now) s ∙ sym v.invariant.2, v.invariant.0)

-- where nothing is read the program is over
pub run_block-returns-in_default : goal.run_block-returns-in_default
unfolding stated
run_block-returns-in_default t c =
    let a = c.args in
    let v = c.loop-s in
    let s = state v.machine (words v.output) in
    let b = (v.invariant.1 c.requires.0).begins in
    let over = nothing_said (rows a.records) v.i b (sym c.in_default.ensures) in
    (went_on s ∙ run_stops (rows a.records) v.i b over (layout a.arrays.now) (counters a.a.now) s ∙ sym v.invariant.2, v.invariant.0)

-- ---- one that holds no block

does : (t : ℕ) (c : run_statement-In-Does t) → said (rows c.args.records) c.args.i ≡ File.does (op c.in-Does.o)
unfolding statement
does t c = c.requires.0.says ∙ ap statement c.in-Does.is

pub run_statement-perform-requires : goal.run_statement-perform-requires
run_statement-perform-requires t c =
    let d = c.requires.0 in
    (performs d.stands d.there (does t (goal.at.run_statement-perform-requires t c).In-Does), c.requires.1, c.requires.2)

pub run_statement-stuck_at-requires : goal.run_statement-stuck_at-requires
run_statement-stuck_at-requires t c = omega (arith, c.requires.0.there, few c.args.records)

-- it went on
pub run_statement-returns-in-Ok : goal.run_statement-returns-in-Ok
unfolding placed
run_statement-returns-in-Ok t c =
    let a = c.args in
    let r = c.perform in
    let d = c.requires.0 in
    let after = state r.new.machine (words r.new.output) in
    let says = does t (goal.at.run_statement-returns-in-Ok t c).In-Does in
    let runs = plain_runs d.stands d.there says (layout a.arrays.now) (counters a.a.now) (state a.machine.now (words a.output.now)) in
    let answered : ran (Ok tt) after ≡ stopped r.result a.i after = placed_ran a.i (Ok tt) after ∙ ap (λ r. stopped r a.i after) (sym c.in-Ok.is) in
    (answered ∙ r.ensures.0 a.i ∙ sym runs, r.ensures.1)

-- or it is stuck
pub run_statement-returns-in_default : goal.run_statement-returns-in_default
run_statement-returns-in_default t c =
    let a = c.args in
    let r = c.perform in
    let d = c.requires.0 in
    let after = state r.new.machine (words r.new.output) in
    let says = does t (goal.at.run_statement-returns-in_default t c).In-Does in
    let runs = plain_runs d.stands d.there says (layout a.arrays.now) (counters a.a.now) (state a.machine.now (words a.output.now)) in
    let answered : ran c.stuck_at.result after ≡ stopped r.result a.i after = ap (λ r. ran r after) c.stuck_at.ensures ∙ placed_ran a.i r.result after in
    (answered ∙ r.ensures.0 a.i ∙ sym runs, r.ensures.1)

-- ---- a for and an if, each in its own function

pub run_statement-run_loop-requires : goal.run_statement-run_loop-requires
unfolding statement
run_statement-run_loop-requires t c =
    let d = c.requires.0 in
    (omega (arith, c.decreases), (record { there = d.there; says = d.says ∙ ap statement c.in-For.is; stands = d.stands }, c.requires.1, c.requires.2))

pub run_statement-run_branch-requires : goal.run_statement-run_branch-requires
unfolding statement
run_statement-run_branch-requires t c =
    let d = c.requires.0 in
    (omega (arith, c.decreases), (record { there = d.there; says = d.says ∙ ap statement c.in-If.is; stands = d.stands }, c.requires.1, c.requires.2))

-- ---- an else or an end

stops : {rs : List Rec} {i : ℕ} {a : Counters} (s : Statement) (d : Due rs i (statement s) a) → (s ≡ Else) ⊎ (s ≡ End) → (e : Layout) (c : Machine.Counters) (m : State) → ran (Ok tt) m ≡ head e (tree_at rs i) c m
stops {rs} {i} s d h e c m = went_on m ∙ head_stops rs i d.stands.begins (closes s d.says h) e c m

pub run_statement-returns-in-Else : goal.run_statement-returns-in-Else
run_statement-returns-in-Else t c =
    let a = c.args in
    (stops a.s.now c.requires.0 c.in-Else.is (layout a.arrays.now) (counters a.a.now) (state a.machine.now (words a.output.now)), c.requires.2)

pub run_statement-returns-in-Else-2 : goal.run_statement-returns-in-Else-2
run_statement-returns-in-Else-2 t c =
    let a = c.args in
    (stops a.s.now c.requires.0 c.in-Else.is (layout a.arrays.now) (counters a.a.now) (state a.machine.now (words a.output.now)), c.requires.2)

-- ---- a for

-- a pass of it
abbrev pass : (rs : List Rec) (i : ℕ) → Layout → Machine.Counters → Loop → ℕ → State → Result Stuck State
pass rs i e cs l m s = run e (tree_at rs (i + 1)) (in_pass l cs m) s

pub run_loop-in_pass-b-requires : goal.run_loop-in_pass-b-requires
run_loop-in_pass-b-requires t c =
    let d = c.requires.0 in
    (c.requires.1, loop_fits d.stands d.there d.says, c.loop-m-test.true, loop_deep d.stands d.there d.says, loop_level d.stands d.there d.says)

pub run_loop-overflow_add-i : goal.run_loop-overflow_add-i
run_loop-overflow_add-i t c = omega (arith, c.requires.0.there, few c.args.records)

pub run_loop-run_block-requires : goal.run_loop-run_block-requires
run_loop-run_block-requires t c =
    let d = c.requires.0 in
    let b = c.in_pass-b in (
      omega (arith, c.decreases, b.ensures.1, loop_deep d.stands d.there d.says),
      (body_stands d.stands d.there d.says b.result b.ensures.1 (ap (λ (c : Machine.Counters). c.level) b.ensures.0), b.ensures.2, c.loop-m.invariant.0),
    )

pub run_loop-returns-in_err-run_block : goal.run_loop-returns-in_err-run_block
run_loop-returns-in_err-run_block t c =
    let a = c.args in
    let v = c.loop-m in
    let r = c.run_block in
    let d = c.requires.0 in
    let rs = rows a.records in
    let e = layout a.arrays.now in
    let l = loop a.l in
    let first = state a.machine.now (words a.output.now) in
    let before = state v.machine (words v.output) in
    let after = state r.new.machine (words r.new.output) in
    let next = pass_next (pass rs a.i e (counters a.a.now) l) l.passes first v.m before c.loop-m-test.true v.invariant.1 in
    let stuck = c.in_err-run_block.ensures in
    let went_in = stuck.0 ∙ ap (λ cs. run e (tree_at rs (a.i + 1)) cs before) c.in_pass-b.ensures.0 in
    let all = loop_runs d.stands d.there d.says e (counters a.a.now) first in
    (handed c.from_residual.result _ after c.from_residual.ensures.1 ∙ stuck_there after _ _ _ next _ went_in ∙ sym all, stuck.1)

pub run_loop-loop-m-preserved : goal.run_loop-loop-m-preserved
run_loop-loop-m-preserved t c =
    let a = c.args in
    let v = c.loop-m in
    let r = c.run_block in
    let rs = rows a.records in
    let e = layout a.arrays.now in
    let l = loop a.l in
    let first = state a.machine.now (words a.output.now) in
    let before = state v.machine (words v.output) in
    let after = state r.new.machine (words r.new.output) in
    let next = pass_next (pass rs a.i e (counters a.a.now) l) l.passes first v.m before c.loop-m-test.true v.invariant.1 in
    let done = c.in_ok-run_block.ensures in
    let went_in = done.0 ∙ ap (λ cs. run e (tree_at rs (a.i + 1)) cs before) c.in_pass-b.ensures.0 in
    (done.1, went after _ _ _ next went_in)

pub run_loop-returns : goal.run_loop-returns
run_loop-returns t c =
    let a = c.args in
    let v = c.loop-m in
    let d = c.requires.0 in
    let rs = rows a.records in
    let e = layout a.arrays.now in
    let l = loop a.l in
    let first = state a.machine.now (words a.output.now) in
    let s = state v.machine (words v.output) in
    let all = loop_runs d.stands d.there d.says e (counters a.a.now) first in
    let done = pass_all (pass rs a.i e (counters a.a.now) l) l.passes first v.m s c.loop-m-test.false v.invariant.1 in
    (went_on s ∙ done ∙ sym all, v.invariant.0)

-- ---- an if

pub run_branch-word-requires : goal.run_branch-word-requires
run_branch-word-requires t c =
    let d = c.requires.0 in
    if_register d.stands d.there d.says

pub run_branch-stuck_at-requires : goal.run_branch-stuck_at-requires
run_branch-stuck_at-requires t c = omega (arith, c.requires.0.there, few c.args.records)

pub run_branch-returns-in_err-w : goal.run_branch-returns-in_err-w
run_branch-returns-in_err-w t c =
    let a = c.args in
    let d = c.requires.0 in
    let ws = words a.output.now in
    let s = state a.machine.now ws in
    let (k, got, stuck) = placed_err a.i _ c.word.result s (c.word.ensures ws) c.in_err-w.ensures in
    (handed c.from_residual.result _ s c.from_residual.ensures.1 ∙ stuck ∙ if_sticks d.stands d.there d.says (layout a.arrays.now) (counters a.a.now) s got, c.requires.2)

pub run_branch-in_if-b-requires : goal.run_branch-in_if-b-requires
run_branch-in_if-b-requires t c =
    let d = c.requires.0 in
    if_deep d.stands d.there d.says

pub run_branch-chosen-requires : goal.run_branch-chosen-requires
run_branch-chosen-requires t c =
    let d = c.requires.0 in
    if_block d.stands d.there d.says

pub run_branch-run_block-requires : goal.run_branch-run_block-requires
run_branch-run_block-requires t c =
    let d = c.requires.0 in
    let b = c.in_if-b in
    let left = ap (λ (b : Counters). b.left) b.ensures in
    let level = ap (λ (b : Counters). b.level) b.ensures in
    let at = if_stands d.stands d.there d.says c.in_ok-w.w b.result (left, level) in (
      omega (arith, c.decreases, left, if_deep d.stands d.there d.says),
      (subst (λ n. Stands (rows c.args.records) n b.result) (sym c.chosen.ensures) at, subst CountersSmall (sym b.ensures) (record { each = c.requires.1.each }), c.requires.2),
    )

pub run_branch-returns : goal.run_branch-returns
run_branch-returns t c =
    let a = c.args in
    let r = c.run_block in
    let d = c.requires.0 in
    let rs = rows a.records in
    let e = layout a.arrays.now in
    let ws = words a.output.now in
    let s = state a.machine.now ws in
    let got = placed_ok a.i c.word.result (c.word.ensures ws) c.in_ok-w.ensures in
    let there = ap (λ n. run e (tree_at rs n) (counters c.in_if-b.result) s) c.chosen.ensures in
    let inner = ap (λ (b : Counters). run e (tree_at rs (taken rs a.i c.in_ok-w.w)) (counters b) s) c.in_if-b.ensures in
    (r.ensures.0 ∙ there ∙ inner ∙ if_runs d.stands d.there d.says e (counters a.a.now) s got, r.ensures.1)
