-- `memory::Order::cell` meets its contract: in 64 bits nothing is lost, and an index inside an array is not below 0.
use Prim.Native.Nat.{◌+◌}
use mathlib.Core.Path.{ap, ◌∙◌}
use native.Mathlib.Omega.{arith}
use lib.IntN.{nat_abs}
use Rattle.memory.proofs.Carried.{product_fits, sum_fits, nth_back}
use Rattle.memory.proofs.Order.cell.Goals as goal

pub overflow_mul-result : goal.overflow_mul-result
overflow_mul-result c = product_fits c.args.self.first c.args.self.step c.args.i c.requires.1

pub overflow_add-result : goal.overflow_add-result
overflow_add-result c = sum_fits c.args.self.first c.args.self.step c.args.i c.requires.1

pub overflow_cast-result-2 : goal.overflow_cast-result-2
overflow_cast-result-2 c =
    let at = c.requires.1.inside in
    rw (nth_back c.args.self.first c.args.self.step c.args.i c.requires.1 ∙ at.is) (tt, record { fits = omega (arith, at.below) })

pub overflow_add-result-2 : goal.overflow_add-result-2
overflow_add-result-2 c =
    let at = c.requires.1.inside in
    rw (nth_back c.args.self.first c.args.self.step c.args.i c.requires.1 ∙ at.is) (record { fits = omega (arith, at.below, c.requires.0) })

pub returns : goal.returns
returns c = ap (λ z. c.args.self.cells + nat_abs z) (nth_back c.args.self.first c.args.self.step c.args.i c.requires.1)
