-- `read_records::form_fits` meets its contract.
use mathlib.Core.Path.{sym, ◌∙◌}
use Rattle.std.proofs.Common.{rules, tests}
use Rattle.std.proofs.lemmas.Iterator.{YieldsList-from_slice}
use Rattle.std.proofs.lemmas.Iterator.Search.{all_from_yields_List}
use Rattle.numbers.specs.Lists.{every}
use Rattle.numbers.specs.Words.{signed, within}
use Rattle.kernel.specs.Reading as Reading
use Rattle.read_records.proofs.Tests.{all_every}
use Rattle.read_records.proofs.form_fits.Goals as goal

pub returns-then-near : goal.returns-then-near
unfolding Reading.form_fits every
returns-then-near c =
    rw (sym c.if-near.ensures) (all_from_yields_List (λ w. within 1048576 (signed w)) _ _ c.all.result c.all.ensures.ran
    (YieldsList-from_slice c.args.d.x cc)
    (λ x b q k. search (rules, tests))
    ∙ all_every (λ w. within 1048576 (signed w)) c.args.d.x)

pub returns-else-near : goal.returns-else-near
unfolding Reading.form_fits every
returns-else-near c = rw (sym c.if-near.ensures) c.if-near.false
