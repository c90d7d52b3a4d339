-- `check_rows::state` meets its contract: the two groups of rows.
use mathlib.Core.Path.{ap, ◌∙◌}
use mathlib.Core.List.{map}
use lib.ListN.{take}
use Rattle.forms.specs.Code.{form}
use Rattle.parts.specs.Tables.{rows}
use Rattle.check_ledger.specs.View.{ledger}
use Rattle.check_rows.proofs.Stating.{stated_rows}
use Rattle.check_rows.proofs.state.Goals as goal

pub returns : goal.returns
unfolding ledger
returns c =
    let s = c.args in
    let p = c.positions.ensures in
    let q = c.buffers.ensures in (
      λ K k d u v w.
          (λ i. record { positions = (ap (λ ps. map form (take s.arrays ps)) q.1 ∙ p.0) i; buffers = q.0 i }) ∙ stated_rows K k (rows s.records) s.rule s.arrays s.buffers d u v w,
      q.2,
    )
