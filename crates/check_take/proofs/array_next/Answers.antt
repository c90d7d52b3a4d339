-- `check_take::array_next` meets its contract.
use mathlib.Core.Path.{sym, ap, ◌∙◌}
use lib.ListN.{get_or}
use Rattle.kernel.specs.File.{nothing}
use Rattle.parts.specs.Parts.{records_in, array_part}
use Rattle.parts.proofs.Parts.{array_program_is}
use Rattle.check_take.proofs.array_next.Goals as goal

pub returns : goal.returns
returns c =
    let k = c.args.kernel in
    let i = c.args.at.array in
    let s = c.sections.ensures in
    let t = c.array_program.ensures in
    c.record.ensures
    ∙ (λ j. get_or (records_in ((t.0 ∙ s.0) j).now ((t.1 ∙ ap array_part s.1) j)) i nothing)
    ∙ ap (λ rs. get_or rs i nothing) (sym (array_program_is k.file.now k.counts))
