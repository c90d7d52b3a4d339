-- `check_take::stream_next` meets its contract.
use mathlib.Core.Path.{sym, ap, ◌∙◌}
use lib.ListN.{get_or}
use Rattle.kernel.specs.File.{nothing}
use Rattle.parts.specs.Parts.{records_in, stream_part}
use Rattle.parts.proofs.Parts.{stream_program_is}
use Rattle.check_take.proofs.stream_next.Goals as goal

pub returns : goal.returns
returns c =
    let k = c.args.kernel in
    let i = c.args.at.stream in
    let s = c.sections.ensures in
    let t = c.stream_program.ensures in
    c.record.ensures
    ∙ (λ j. get_or (records_in ((t.0 ∙ s.0) j).now ((t.1 ∙ ap stream_part s.1) j)) i nothing)
    ∙ ap (λ rs. get_or rs i nothing) (sym (stream_program_is k.file.now k.counts))
