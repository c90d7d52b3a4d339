-- `read_blocks::named` meets its contract.
use mathlib.Core.Path.{sym}
use Rattle.forms.specs.Code.{form}
use Rattle.kernel.specs.Named.{misread}
use Rattle.read_blocks.specs.View.{nested}
use Rattle.read_blocks.proofs.Statements.{names_fine, names_refused}
use Rattle.read_blocks.proofs.named.Goals as goal

pub returns-then-around : goal.returns-then-around
unfolding nested
returns-then-around c = sym (names_fine c.args.n.now (form c.args.f) (sym c.if-around.ensures))

pub returns-else-around : goal.returns-else-around
unfolding nested misread
returns-else-around c = sym (names_refused c.args.n.now (form c.args.f) (sym c.if-around.ensures))
