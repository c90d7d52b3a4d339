-- `line::printed` meets its contract: the line of the check of the bytes that are taken.
use mathlib.Core.Path.{sym, ap, subst, ◌∙◌}
use native.Mathlib.Omega.{arith}
use lib.Seq.{take_all, length-take-le}
use Rattle.kernel.specs.Answers as Answers
use Rattle.line.specs.View.{Shows}
use Rattle.line.proofs.printed.Goals as goal

pub returns-then-input-le49436 : goal.returns-then-input-le49436
unfolding Answers.printed
returns-then-input-le49436 c =
    let input = c.args.input.now in
    let all = sym (take_all 49436 input (omega (arith, c.if-input-le49436.true))) in
    subst (λ a. Shows c.line.result (Answers.line a)) (c.check.ensures ∙ ap Answers.check all) c.line.ensures

pub slice_bounds-check-end : goal.slice_bounds-check-end
slice_bounds-check-end c =
    sym (length-take-le _ c.args.input.now (omega (arith, c.if-input-le49436.false)))

pub returns : goal.returns
unfolding Answers.printed
returns c =
    subst (λ a. Shows c.line-2.result (Answers.line a)) c.check-2.ensures c.line-2.ensures
