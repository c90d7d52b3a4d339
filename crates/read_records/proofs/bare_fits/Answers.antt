-- `read_records::bare_fits` meets its contract.
use mathlib.Core.Path.{◌≡◌, sym, ap, ◌∙◌}
use mathlib.Core.List.{◌∷◌}
use lib.ListN.{length}
use Rattle.std.proofs.Common.{rules}
use Rattle.std.specs.Prelude.{is_ok}
use Rattle.kernel.specs.File.{numbers}
use Rattle.kernel.specs.Reading as Reading
use Rattle.read_records.proofs.Tables.{four}
use Rattle.read_records.proofs.Tests.{ruled_ok}
use Rattle.read_records.proofs.bare_fits.Goals as goal

pub returns-then-is_ok : goal.returns-then-is_ok
unfolding numbers
returns-then-is_ok c =
    let d = c.args.d in
    let long : length d.x ≡ 4 = search rules in
    rw (sym (c.is_ok.ensures.value ∙ ap is_ok c.try_from.ensures ∙ ruled_ok d.code) ∙ c.if-is_ok.true)
    (c.zeros.ensures ∙ ap (λ x. Reading.zeros (d.p ∷ d.q ∷ d.k ∷ x)) (four d.x long))

pub returns-else-is_ok : goal.returns-else-is_ok
returns-else-is_ok c =
    rw (sym (c.is_ok.ensures.value ∙ ap is_ok c.try_from.ensures ∙ ruled_ok c.args.d.code) ∙ c.if-is_ok.false) c.if-is_ok.false
