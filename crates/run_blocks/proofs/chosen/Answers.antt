-- `run_blocks::chosen` meets its contract: the search finds where the other block begins.
use Prim.Native.Nat.{suc, ◌+◌, ◌<◌}
use mathlib.Core.Path.{◌≡◌, sym, ap, ◌∙◌}
use mathlib.Core.Bool.{cond}
use native.Mathlib.Omega.{arith}
use borrow.Author.Tests.{eq-eqb, ne_eqb}
use Rattle.kernel.specs.Trees.{tree_at, stop_of}
use Rattle.parts.specs.Tables.{rows}
use Rattle.parts.proofs.Records.{count_is}
use Rattle.run_ends.proofs.Scan.{scan_begins, scan_there}
use Rattle.run_blocks.specs.View.{taken}
use Rattle.run_blocks.proofs.chosen.Goals.{Start}
use Rattle.run_blocks.proofs.chosen.Goals as goal

-- there is a record after record i, and few are before the block's end
near : (c : Start) → (c.args.i < 1024) × (stop_of (tree_at (rows c.args.records) (c.args.i + 1)) < 1024)
near c =
    let rs = rows c.args.records in
    let i = c.args.i + 1 in
    let s = scan_begins rs i c.requires in
    let there = scan_there rs i 0 i s in
    let few = count_is c.args.records.file.now c.args.records.part in
    (omega (arith, there, few, c.args.records.lies.few), omega (arith, s.inside, few, c.args.records.lies.few))

pub overflow_add-i : goal.overflow_add-i
overflow_add-i c = omega (arith, near (goal.at.overflow_add-i c).Start)

pub overflow_add-result : goal.overflow_add-result
overflow_add-result c = omega (arith, near (goal.at.overflow_add-result c).Start, c.end_of.ensures)

pub returns-then-w-eq0 : goal.returns-then-w-eq0
unfolding taken
returns-then-w-eq0 c =
    let rs = rows c.args.records in
    let i = c.args.i in
    let one_more : c.end_of.result + 1 ≡ suc (stop_of (tree_at rs (i + 1))) = omega (arith, c.end_of.ensures) in
    one_more ∙ sym (ap (λ t. cond t (suc (stop_of (tree_at rs (i + 1)))) (i + 1)) (eq-eqb c.args.w 0 c.if-w-eq0.true))

pub overflow_add-result-2 : goal.overflow_add-result-2
overflow_add-result-2 c = omega (arith, near (goal.at.overflow_add-result-2 c).Start)

pub returns : goal.returns
unfolding taken
returns c =
    let rs = rows c.args.records in
    let i = c.args.i in
    sym (ap (λ t. cond t (suc (stop_of (tree_at rs (i + 1)))) (i + 1)) (ne_eqb c.args.w 0 c.if-w-eq0.false))
