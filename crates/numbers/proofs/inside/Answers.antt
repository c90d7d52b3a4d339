-- `numbers::inside` meets its contract.
use Rattle.std.proofs.Common.{pos, sym, ap, ◌∙◌, to_z-of_z}
use lib.Signed.{le_z, lt_z}
use Rattle.numbers.proofs.Signs.{as_returned}
use Rattle.numbers.proofs.Ranges.{below_zero, from_zero}
use Rattle.numbers.proofs.inside.Goals as goal

pub returns-then-z-ge0 : goal.returns-then-z-ge0
returns-then-z-ge0 c =
    let plain = to_z-of_z {z = c.args.z} c.ranges.z in
    let n_is = as_returned {z = c.from.result} c.from.type_inv ∙ c.from.ensures in
    (λ i. lt_z (plain i) (n_is i)) ∙ from_zero c.args.n c.args.z (ap (le_z (pos 0)) (sym plain) ∙ c.if-z-ge0.true)

pub returns-else-z-ge0 : goal.returns-else-z-ge0
returns-else-z-ge0 c =
    let plain = to_z-of_z {z = c.args.z} c.ranges.z in
    c.if-z-ge0.false ∙ below_zero c.args.n c.args.z (ap (le_z (pos 0)) (sym plain) ∙ c.if-z-ge0.false)
