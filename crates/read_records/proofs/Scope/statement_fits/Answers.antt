-- `Scope::statement_fits` meets its contract: the code, its row of the table, and a for's passes, in this order.
use mathlib.Core.Path.{◌≡◌, sym, ap, ◌∙◌}
use mathlib.Core.Bool.{Bool, true, false, not}
use lib.Dec.{leb}
use Rattle.forms.specs.Form.{Loop}
use Rattle.parts.specs.Records.{rec}
use Rattle.read_records.specs.View.{scope, row}
use Rattle.read_records.proofs.Statements.{fits_none, fits_row, fits_other, fits_for}
use Rattle.read_records.proofs.Scope.statement_fits.Goals as goal

turned : (b c : Bool) → c ≡ not b → b ≡ not c
turned true c h = sym (ap not h)
turned false c h = sym (ap not h)

pub returns-in_default : goal.returns-in_default
returns-in_default c = fits_none (scope c.args.self) (rec c.args.r) c.in_default.ensures

pub returns-then-ne : goal.returns-then-ne
unfolding row
returns-then-ne c =
    c.if-ne.true ∙ fits_other (scope c.args.self) (rec c.args.r) c.in-Ok.ensures (sym c.if-row_fits.ensures) (turned _ _ c.if-ne.ensures)

pub returns-else-ne : goal.returns-else-ne
unfolding row
returns-else-ne c =
    ap (λ (l : Loop). leb 1 l.passes) c.for_loop.ensures
    ∙ fits_for (scope c.args.self) (rec c.args.r) c.in-Ok.ensures (sym c.if-row_fits.ensures) (turned _ _ c.if-ne.ensures)

pub returns-else-row_fits : goal.returns-else-row_fits
unfolding row
returns-else-row_fits c =
    c.if-row_fits.false ∙ fits_row (scope c.args.self) (rec c.args.r) c.in-Ok.ensures (sym c.if-row_fits.ensures)
