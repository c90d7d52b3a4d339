-- `check_rows::in_order` meets its contract.
use Prim.Native.Nat.{◌+◌}
use mathlib.Core.Path.{◌≡◌, refl, ap, ◌∙◌}
use native.Mathlib.Omega.{arith}
use lib.ListN.{drop}
use Rattle.kernel.specs.Check.{in_order}
use borrow.Author.Rules.{rules}
use Rattle.std.proofs.lemmas.Iterator.{YieldsList-from_range}
use Rattle.std.proofs.lemmas.Iterator.Search.{all_from_yields_List}
use Rattle.kernel.specs.Named.{row}
use Rattle.parts.specs.Tables.{rows}
use Rattle.parts.proofs.Records.{count_is}
use Rattle.check_rows.proofs.Rows.{stands, in_order_by}
use Rattle.check_rows.proofs.in_order.Goals as goal

pub returns : goal.returns
returns c =
    let s = c.args in
    let rs = rows s.records in
    let at_start : s.from + 0 ≡ s.from = omega arith in
    all_from_yields_List (stands (row s.kind) s.level rs s.from s.records.part.count) c.all.new.self _ _ c.all.ensures.ran (YieldsList-from_range 0 s.n s.n refl (search rules)) (λ x b q k. search rules)
    ∙ in_order_by (row s.kind) s.level rs s.from s.records.part.count (count_is s.records.file.now s.records.part) s.n 0 ∙ ap (λ n. in_order (row s.kind) s.level 0 s.n (drop n rs)) at_start
