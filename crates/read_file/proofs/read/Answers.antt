-- `read_file::read` meets its contract.
use mathlib.Core.Path.{sym}
use Rattle.std.proofs.lemmas.Result.{err_from_is_err_and}
use Rattle.kernel.specs.Named.{section_of, misread, unread}
use Rattle.read_counts.specs.View as Sections
use Rattle.read_file.specs.View.{answer}
use Rattle.read_file.proofs.Parts.{read_odd, read_stop}
use Rattle.read_file.proofs.read.Goals as goal

pub returns-then-file-ne0 : goal.returns-then-file-ne0
unfolding answer unread misread section_of
returns-then-file-ne0 c = (sym (read_odd c.args.file.now c.if-file-ne0.true), tt)

pub returns-in_err-sections : goal.returns-in_err-sections
unfolding answer Sections.answer
returns-in_err-sections c =
    let p = err_from_is_err_and c.from_residual.result c.from_residual.ensures.1 in
    rw (p.1, p.2) (sym (read_stop c.args.file.now _ c.if-file-ne0.false (sym c.in_err-sections.ensures.0)), tt)

pub records_fit-requires : goal.records_fit-requires
unfolding Sections.answer
records_fit-requires c = rw c.in_ok-sections.ensures.1 (c.if-file-ne0.false, sym c.in_ok-sections.ensures.0)
