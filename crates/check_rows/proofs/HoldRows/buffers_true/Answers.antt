-- `check_rows::HoldRows::buffers_true` meets its contract.
use mathlib.Core.Path.{◌∙◌}
use native.Mathlib.Omega.{arith}
use lib.ListN.{take}
use lib.Seq.{length-take-le}
use borrow.Author.Rules.{rules}
use Rattle.std.proofs.Common.{None}
use Rattle.forms.specs.Code.{loops}
use Rattle.kernel.specs.Ledger as L
use Rattle.check_ledger.specs.View.{held}
use Rattle.check_ledger.proofs.Loops.{alike_by_all}
use Rattle.check_rows.specs.Changes.{with_change, SmallHeld}
use Rattle.check_rows.proofs.Changes.{changed_alike, pairs_asked}
use Rattle.check_rows.proofs.HoldRows.buffers_true.Goals as goal

pub all-requires-clause-callable : goal.all-requires-clause-callable
all-requires-clause-callable c =
    let s = c.args.self in
    pairs_asked c.zip.result SmallHeld None s.buffers s.ledger.now.buffers (take s.buffers c.args.l.now.buffers) (search rules) (search rules) s.stated.at_buffer
    (λ x q r. search rules)
    (λ x small. search rules)

pub returns : goal.returns
returns c =
    let s = c.args.self in
    let holds = L.row_true (loops c.args.around) in
    let change = L.each_held (with_change c.args.change) in
    let l = c.args.l.now.buffers in
    alike_by_all c.zip.result c.all.new.self (λ f g. holds (change f) g) held held (take s.buffers s.ledger.now.buffers) (take s.buffers l)
    (omega (arith, length-take-le s.buffers s.ledger.now.buffers, length-take-le s.buffers l)) (search rules) (search rules) c.all.ensures.ran (λ x b q k. search rules)
    ∙ changed_alike holds change _ _
