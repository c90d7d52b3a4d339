-- `run_calls::program` meets its contract: a program's part lies in the file.
use mathlib.Core.Path.{sym, ap, ◌∙◌}
use Rattle.parts.specs.Parts.{records_in, array_part, stream_part}
use Rattle.parts.proofs.Parts.{array_program_is, stream_program_is}
use Rattle.run_calls.specs.View.{kernel_of, program}
use Rattle.run_calls.proofs.program.Goals as goal

pub returns-in-Cells : goal.returns-in-Cells
unfolding program
returns-in-Cells c =
    let k = c.args.k in
    let s = c.sections-sections.ensures in
    let p = c.array_program.ensures in
    (λ i. records_in ((p.0 ∙ s.0) i).now ((p.1 ∙ ap array_part s.1) i)) ∙ sym (array_program_is k.file.now k.counts) ∙ sym (ap (λ m. program m (kernel_of k)) c.in-Cells.is)

pub returns-in-Items : goal.returns-in-Items
unfolding program
returns-in-Items c =
    let k = c.args.k in
    let s = c.sections-sections.ensures in
    let p = c.stream_program.ensures in
    (λ i. records_in ((p.0 ∙ s.0) i).now ((p.1 ∙ ap stream_part s.1) i)) ∙ sym (stream_program_is k.file.now k.counts) ∙ sym (ap (λ m. program m (kernel_of k)) c.in-Items.is)
