-- `read_file::statements_fit` meets its contract. The invariant: the test from here on, with the blocks that are open, is the test of the whole.
use Prim.Native.Nat.{◌<◌}
use mathlib.Core.Path.{◌≡◌, sym, ap, ◌∙◌}
use native.Mathlib.Omega.{arith}
use native.Mathlib.Nat as NatL
use lib.ListN.{length, get_or}
use Rattle.numbers.specs.Result.{stop}
use Rattle.kernel.specs.File as File
use Rattle.kernel.specs.File.{nothing}
use Rattle.kernel.specs.Named as Named
use Rattle.kernel.specs.Reading.{after, statement_fits, statements_fit}
use Rattle.parts.specs.Records.{rec}
use Rattle.parts.specs.Tables.{rows}
use Rattle.parts.proofs.Records.{count_is}
use Rattle.read_records.specs.View.{scope}
use Rattle.read_blocks.specs.View.{opens, nested}
use Rattle.read_file.specs.View.{checked}
use Rattle.read_file.proofs.Programs.{loop_there, unfit, blocked, goes_on, over_closed, over_open}
use Rattle.read_file.proofs.statements_fit.Goals.{After-statement_fits}
use Rattle.read_file.proofs.statements_fit.Goals as goal

-- the statement that is tested
module _ (c : After-statement_fits) where
  there : c.loop-i.i < length (rows c.args.program)
  there = omega (arith, count_is c.args.program.file.now c.args.program.part, c.loop-i-test.true)

  tested : statement_fits (scope c.args.held) (get_or (rows c.args.program) c.loop-i.i nothing) ≡ c.statement_fits.result
  tested = ap (statement_fits (scope c.args.held)) (sym c.record-r.ensures) ∙ sym c.statement_fits.ensures

pub loop-i-init : goal.loop-i-init
loop-i-init c = ap (λ os. statements_fit (scope c.args.held) (Named.section c.args.section) 0 os (rows c.args.program)) c.none-open.ensures

pub returns-then-not-statement_fits : goal.returns-then-not-statement_fits
unfolding checked Named.misread
returns-then-not-statement_fits c =
    let l = c.loop-i in
    let g = (goal.at.returns-then-not-statement_fits c).After-statement_fits in
    ap (λ f. stop f) c.refused.ensures
    ∙ sym (unfit (scope c.args.held) (Named.section c.args.section) (rows c.args.program) l.i (there g) (opens l.«open») (tested g ∙ c.if-not-statement_fits.true))
    ∙ l.invariant

pub after-requires : goal.after-requires
after-requires c = loop_there (scope c.args.held) (rec c.record-r.result) (sym c.if-not-statement_fits.ensures)

pub returns-in-Err : goal.returns-in-Err
unfolding checked nested
returns-in-Err c =
    let l = c.loop-i in
    let g = (goal.at.returns-in-Err c).After-statement_fits in
    ap (λ f. stop f) c.refused-in-Err.ensures
    ∙ sym (blocked (scope c.args.held) (Named.section c.args.section) (rows c.args.program) l.i (there g) (opens l.«open») (tested g ∙ c.if-not-statement_fits.false) c.in-Err.why
    (c.in-Err.ensures.0 ∙ ap (λ r. after (File.statement r) (opens l.«open»)) c.record-r.ensures))
    ∙ l.invariant

pub loop-i-preserved : goal.loop-i-preserved
loop-i-preserved c =
    let l = c.loop-i in
    let g = (goal.at.loop-i-preserved c).After-statement_fits in
    goes_on (scope c.args.held) (Named.section c.args.section) (rows c.args.program) l.i (there g) (opens l.«open») (tested g ∙ c.if-not-statement_fits.false) c.after.new.n
    (c.in-Ok.ensures.0 ∙ ap (λ r. after (File.statement r) (opens l.«open»)) c.record-r.ensures)
    ∙ l.invariant

pub returns-then-open-ne0 : goal.returns-then-open-ne0
unfolding checked Named.misread
returns-then-open-ne0 c =
    let l = c.loop-i in
    let n = count_is c.args.program.file.now c.args.program.part in
    ap (λ f. stop f) c.refused-then-open-ne0.ensures
    ∙ sym (over_open (scope c.args.held) (Named.section c.args.section) (rows c.args.program) l.i l.«open» c.args.program.part.count
    (omega (arith, n, c.loop-i-test.false)) (omega (arith, c.loop-i-test.false, l.auto.i-end)) (NatL.pos_of_ne-zero c.if-open-ne0.true))
    ∙ l.invariant

pub returns : goal.returns
unfolding checked
returns c =
    let l = c.loop-i in
    let n = count_is c.args.program.file.now c.args.program.part in
    sym (over_closed (scope c.args.held) (Named.section c.args.section) (rows c.args.program) l.i l.«open» c.args.program.part.count
    (omega (arith, n, c.loop-i-test.false)) (omega (arith, c.loop-i-test.false, l.auto.i-end)) c.if-open-ne0.false)
    ∙ l.invariant
