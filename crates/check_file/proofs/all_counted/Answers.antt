-- `check_file::all_counted` meets its contract. Invariant: the test of all arrays is the test of those from j on.
use Prim.Native.Nat.{◌≤◌}
use mathlib.Core.Path.{◌≡◌, sym, ap, ◌∙◌}
use mathlib.Core.List.{List}
use native.Mathlib.Omega.{arith}
use lib.ListN.{length, get_or}
use mir.Syntax.{w64}
use mir.Facts.{to_z-of_z}
use borrow.Author.Rules.{rules}
use Rattle.numbers.proofs.Rows.{test_goes_on, test_fails, test_passes}
use Rattle.forms.specs.Form as F
use Rattle.forms.specs.Code.{form, loops}
use Rattle.kernel.specs.File.{Rec, nothing}
use Rattle.parts.specs.declared.ArrayTable.{ArrayTable}
use Rattle.parts.specs.Arrays.{arrays_of}
use Rattle.check_ledger.specs.declared.Ledger.{Ledger}
use Rattle.check_ledger.specs.View.{no_form}
use Rattle.check_file.proofs.Counted.{counted, all_counted_is, seen, arrays_long, seen_few, seen_long, test_is}
use Rattle.check_file.proofs.all_counted.Goals.{After-same}
use Rattle.check_file.proofs.all_counted.Goals as goal

-- the arrays, and the forms of their positions, as many of each as there are arrays
module _ (t : ArrayTable) (l : Ledger) where
  abbrev arrays : List Rec
  arrays = arrays_of t.file.now t.count

  abbrev forms : List F.Form
  forms = seen t.file.now t.count l.positions

  arrays_are_long : length arrays ≡ t.count
  arrays_are_long = arrays_long t.file.now t.count l.positions

  forms_are_few : length forms ≤ t.count
  forms_are_few = seen_few t.file.now t.count l.positions

  forms_are_long : length l.positions ≡ 8 → length forms ≡ t.count
  forms_are_long h = seen_long t.file.now t.count l.positions (omega (arith, h, t.few))

-- the test at array j
tested : (c : After-same) → counted (get_or (arrays c.args.arrays c.args.l.now) c.loop-j.j nothing) (get_or (forms c.args.arrays c.args.l.now) c.loop-j.j (form no_form)) ≡ c.same.result
tested c =
    sym
    (c.same.ensures
    ∙ test_is c.args.arrays.file.now c.args.arrays.count c.args.l.now.positions c.loop-j.j c.loop-j-test.true c.count_of.result c.constant-count.result (loops c.outside-around.result) c.count_of.ensures
    (c.constant-count.ensures ∙ ap F.constant (to_z-of_z {w = w64} {z = c.from.result} (record { sfits = c.from.type_inv }) ∙ c.from.ensures))
    c.loop-j.invariant.1)

pub returns-then-not-same : goal.returns-then-not-same
returns-then-not-same c =
    let t = c.args.arrays in
    let l = c.args.l.now in
    let long : length l.positions ≡ 8 = search rules in
    λ K M k e. sym (test_fails counted (arrays t l) (forms t l) c.loop-j.j nothing (form no_form) (omega (arith, c.loop-j-test.true, arrays_are_long t l)) (omega (arith, c.loop-j-test.true, forms_are_long t l long)) c.loop-j.invariant.0 (tested (goal.at.returns-then-not-same c).After-same ∙ c.if-not-same.true)) ∙ all_counted_is K M (arrays t l) (forms t l) k e

pub loop-j-preserved : goal.loop-j-preserved
loop-j-preserved c =
    let t = c.args.arrays in
    let l = c.args.l.now in
    let long : length l.positions ≡ 8 = search rules in
    (test_goes_on counted (arrays t l) (forms t l) c.loop-j.j nothing (form no_form) (omega (arith, c.loop-j-test.true, arrays_are_long t l)) (omega (arith, c.loop-j-test.true, forms_are_long t l long)) c.loop-j.invariant.0 (tested (goal.at.loop-j-preserved c).After-same ∙ c.if-not-same.false), c.loop-j.invariant.1)

pub returns : goal.returns
returns c =
    let t = c.args.arrays in
    let l = c.args.l.now in
    λ K M k e. sym (test_passes counted (arrays t l) (forms t l) c.loop-j.j (omega (arith, c.loop-j-test.false, arrays_are_long t l)) (omega (arith, c.loop-j-test.false, forms_are_few t l)) c.loop-j.invariant.0) ∙ all_counted_is K M (arrays t l) (forms t l) k e
