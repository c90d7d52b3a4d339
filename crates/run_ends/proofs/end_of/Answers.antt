-- `run_ends::end_of` meets its contract. The invariant: the block sought stops where the one stops that follows the next `depth` elses and ends.
use Prim.Native.Nat.{◌+◌, ◌≤◌}
use mathlib.Core.Path.{◌≡◌, sym, ap, subst, ◌∙◌}
use native.Mathlib.Omega.{arith}
use lib.ListN.{get_or}
use Rattle.kernel.specs.File.{nothing}
use Rattle.kernel.specs.Named.{code}
use Rattle.parts.specs.Tables.{rows}
use Rattle.parts.proofs.Records.{count_is}
use Rattle.run_ends.specs.View.{depth_after}
use Rattle.run_ends.proofs.Scan.{Scanning, scan_begins, scan_there, scan_on, scan_found, depth_after_most}
use Rattle.run_ends.proofs.end_of.Goals.{Joined-else-code-from, else-code-from-via-then-code-from+else-depth-eq0, else-code-from-via-else-code-from}
use Rattle.run_ends.proofs.end_of.Goals as goal

pub loop-j-init : goal.loop-j-init
loop-j-init c =
    (scan_begins (rows c.args.records) c.args.i c.requires, omega arith)

pub returns-then-depth-eq0 : goal.returns-then-depth-eq0
unfolding code
returns-then-depth-eq0 c =
    let v = c.loop-j in
    scan_found (rows c.args.records) c.args.i v.depth v.j v.invariant.0 (omega (arith, c.if-code-from.true, c.from.ensures, c.code-code.ensures)) c.if-depth-eq0.true

-- a closing is not passed over where none is to be
some : (c : Joined-else-code-from) → 10 ≤ c.code-code.result → 1 ≤ c.loop-j.depth
unfolding code
some c h =
    elim c.else-code-from.branch [
      | else-code-from-via-then-code-from+else-depth-eq0 w ↦ omega (arith, w.if-depth-eq0.false)
      | else-code-from-via-else-code-from w ↦ absurd (omega (arith, w.if-code-from.false, c.from.ensures))
    ]

pub depth_after-depth-requires : goal.depth_after-depth-requires
depth_after-depth-requires c =
    (omega (arith, c.loop-j.invariant.1, c.args.records.lies.few), some (goal.at.depth_after-depth-requires c).Joined-else-code-from)

pub loop-j-preserved : goal.loop-j-preserved
loop-j-preserved c =
    let at = goal.at.loop-j-preserved c in
    let rs = rows c.args.records in
    let v = c.loop-j in
    let code = (get_or rs v.j nothing).code in
    let read = c.code-code.ensures in
    let after = c.depth_after-depth in
    let e : after.result ≡ depth_after v.depth code = after.ensures ∙ ap (depth_after v.depth) read in
    let z : 10 ≤ code → 1 ≤ v.depth = λ h. some at.Joined-else-code-from (subst (λ n. 10 ≤ n) (sym read) h) in
    (subst (λ d. Scanning rs c.args.i d (v.j + 1)) (sym e) (scan_on rs c.args.i v.depth v.j v.invariant.0 z), omega (arith, e, depth_after_most v.depth code, v.invariant.1))

-- a program that reads stops at an else or end before its last record is past
pub returns : goal.returns
returns c =
    let there = scan_there (rows c.args.records) c.args.i c.loop-j.depth c.loop-j.j c.loop-j.invariant.0 in
    absurd (omega (arith, there, count_is c.args.records.file.now c.args.records.part))
