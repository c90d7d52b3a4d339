-- `check_file::check` meets its contract: reading first.
use mathlib.Core.Path.{◌≡◌, sym, ap, ◌∙◌}
use Rattle.std.proofs.Common.{Err}
use Rattle.std.proofs.lemmas.Result.{err_from_is_err_and}
use Rattle.kernel.specs.Check as Check
use Rattle.kernel.specs.Answers as Answers
use Rattle.parts.specs.Parts.{kernel}
use Rattle.read_file.specs.View as Reading
use Rattle.check_file.specs.declared.NotAccepted.{NotAccepted}
use Rattle.check_file.specs.View.{answer, verdict}
use Rattle.check_file.proofs.check.Goals.{In_ok-kernel}
use Rattle.check_file.proofs.check.Goals as goal

-- the kernel that was read is the file's
read_so : (c : In_ok-kernel) → Answers.checked (Check.check_kernel (kernel c.in_ok-kernel.kernel.file.now c.in_ok-kernel.kernel.counts)) ≡ Answers.check c.args.file.now
unfolding Reading.answer Answers.check Answers.checked_file
read_so c =
    let e = c.in_ok-kernel.ensures in
    (λ i. Answers.checked (Check.check_kernel (kernel (e.1 i).now c.in_ok-kernel.kernel.counts))) ∙ ap Answers.checked_file e.0

pub returns-in_err-kernel : goal.returns-in_err-kernel
unfolding answer Reading.answer Answers.check Answers.checked_file
returns-in_err-kernel c =
    let (x, is, same) = err_from_is_err_and c.from_residual.result c.from_residual.ensures.1 in
    ap answer (is ∙ ap (λ (x : NotAccepted). Err x) same) ∙ ap Answers.checked_file (ap (Reading.answer c.args.file.now) (sym c.in_err-kernel.was) ∙ c.read.ensures.0)

pub returns-in_err-judged : goal.returns-in_err-judged
unfolding answer verdict
returns-in_err-judged c =
    let (x, is, same) = err_from_is_err_and c.from_residual-in_err-judged.result c.from_residual-in_err-judged.ensures.1 in
    ap answer (is ∙ ap (λ (x : NotAccepted). Err x) same) ∙ ap verdict (sym c.in_err-judged.was) ∙ c.judged.ensures ∙ read_so (goal.at.returns-in_err-judged c).In_ok-kernel

pub returns : goal.returns
unfolding answer verdict
returns c = ap verdict (sym c.in_ok-judged.was) ∙ c.judged.ensures ∙ read_so (goal.at.returns c).In_ok-kernel
