-- `Layout::cell` meets its contract: the number is one of the array's cells or not.
use mathlib.Core.Path.{◌≡◌, sym, ap, ◌∙◌}
use native.Mathlib.Omega.{arith}
use lib.ListN.{get_or}
use Rattle.numbers.specs.Words.{inside}
use Rattle.numbers.proofs.Signs.{back, as_returned}
use Rattle.run_ops.specs.Layout.{layout}
use Rattle.run_ops.proofs.Index.{inside_small, cell_there, cell_past}
use Rattle.run_ops.proofs.Layout.cell.Goals.{Start}
use Rattle.run_ops.proofs.Layout.cell.Goals as goal

-- the number, as the code hands it on
is : (c : Start) → back c.args.z ≡ c.args.z
is c = as_returned {z = c.args.z} c.ranges.z.sfits

pub returns-then-not-inside : goal.returns-then-not-inside
returns-then-not-inside c =
    let e = is (goal.at.returns-then-not-inside c).Start in
    let n = get_or c.args.self.now.sizes c.args.q 0 in
    (cell_past (layout c.args.self.now) c.args.q c.args.why c.args.z (ap (inside n) (sym e) ∙ sym c.inside.ensures ∙ c.if-not-inside.true), tt)

pub overflow_cast-result-2 : goal.overflow_cast-result-2
overflow_cast-result-2 c =
    let n = get_or c.args.self.now.sizes c.args.q 0 in
    let k = inside_small n (back c.args.z) (sym c.inside.ensures ∙ c.if-not-inside.false) in
    (k.0, record { fits = omega (arith, k.1) })

pub returns : goal.returns
returns c =
    let e = is (goal.at.returns c).Start in
    let n = get_or c.args.self.now.sizes c.args.q 0 in
    let t = ap (inside n) (sym e) ∙ sym c.inside.ensures ∙ c.if-not-inside.false in
    (rw e (cell_there (layout c.args.self.now) c.args.q c.args.why c.args.z t), omega (arith, (inside_small n c.args.z t).1))
