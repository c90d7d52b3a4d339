-- `check_file::walked` meets its contract: the walk from the beginning, then the counts.
use mathlib.Core.Path.{refl, sym, ap, ◌∙◌}
use mathlib.Core.List.{[]}
use native.Mathlib.Omega.{arith}
use Rattle.kernel.specs.Check as Check
use Rattle.parts.proofs.Parts.{arrays_are}
use Rattle.parts.specs.Arrays.{arrays_of}
use Rattle.check_ledger.specs.View.{positions_of, ledger}
use Rattle.check_take.specs.View.{held_by, with_ledger}
use Rattle.check_walk.proofs.Walks.{passed_on}
use Rattle.check_file.specs.View.{ended}
use Rattle.check_file.proofs.Judging.{no_loops, Comes, stood, opens, comes, refused, counted}
use Rattle.check_file.proofs.walked.Goals.{After-check_block}
use Rattle.check_file.proofs.walked.Goals as goal

-- the walk has come to its end, or to a refusal
walk : (c : After-check_block) → Comes c.args.kernel (with_ledger c.check_block.result c.check_block.new.l)
unfolding Check.no_block
walk c = comes c.args.kernel c.fresh-l.ensures (with_ledger c.check_block.result c.check_block.new.l) (c.check_block.ensures.0 [] (no_loops c.outside.result c.outside.ensures.0) refl)

pub check_block-requires : goal.check_block-requires
check_block-requires c =
    let l = c.fresh-l.ensures in
    let o = c.outside.ensures in
    (stood c.args.kernel l, o.2, omega (arith, o.1), opens c.args.kernel l c.outside.result o.1)

pub returns-in_err-at : goal.returns-in_err-at
unfolding ended
returns-in_err-at c =
    ap ended (passed_on c.in_err-at.was c.from_residual.ensures.1)
    ∙ sym (refused c.args.kernel (with_ledger c.check_block.result c.check_block.new.l) (walk (goal.at.returns-in_err-at c).After-check_block) c.in_err-at.was)

pub returns : goal.returns
unfolding ledger
returns c =
    let k = c.args.kernel in
    let v = c.check_block in
    let to = with_ledger v.result v.new.l in
    let e = c.arrays.ensures in
    let t = c.all_counted.ensures (held_by k) (ledger k.counts.a k.counts.b v.new.l) (arrays_are k.file.now k.counts ∙ (λ i. arrays_of (sym e.0 i).now (sym e.1 i))) (λ i. positions_of (sym e.1 i) v.new.l) in
    ap ended c.need.ensures ∙ counted k to (walk (goal.at.returns c).After-check_block) c.in_ok-at.was (v.ensures.1 c.in_ok-at.at c.in_ok-at.was).1 c.all_counted.result t
