-- `read_records::rule_fits` meets its contract: a row for each code.
use mathlib.Core.Path.{sym, ◌∙◌}
use Rattle.kernel.specs.Named.{row}
use Rattle.parts.specs.Records.{rec}
use Rattle.read_records.proofs.Rules.{at_11, at_12, at_other}
use Rattle.read_records.proofs.rule_fits.Goals as goal

pub returns-then-d-from : goal.returns-then-d-from
unfolding row
returns-then-d-from c = λ K a b.
    let s = c.args in
    c.array_row_fits.ensures ∙ at_11 K (rec s.d) s.counts.a a (c.if-d-from.true ∙ c.from.ensures)

pub returns-then-d-from-2 : goal.returns-then-d-from-2
unfolding row
returns-then-d-from-2 c = λ K a b.
    let s = c.args in
    c.buffer_row_fits.ensures ∙ at_12 K (rec s.d) s.counts.a s.counts.b a b (c.if-d-from-2.true ∙ c.from-else-d-from.ensures)

pub returns-else-d-from-2 : goal.returns-else-d-from-2
unfolding row
returns-else-d-from-2 c = λ K a b.
    c.bare_fits.ensures ∙ at_other K (rec c.args.d) (λ e. c.if-d-from.false (e ∙ sym c.from.ensures)) (λ e. c.if-d-from-2.false (e ∙ sym c.from-else-d-from.ensures))
