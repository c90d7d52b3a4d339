-- `memory::total` meets its contract: the sizes of a side's arrays, added up.
use Prim.Native.Nat.{◌*◌, ◌≤◌}
use mathlib.Core.Path.{◌≡◌, ◌∙◌}
use native.Mathlib.Omega.{arith}
use borrow.Author.Rules.{rules}
use Rattle.kernel.specs.Named.{side}
use Rattle.parts.specs.Arrays.{array_at, arrays_of, measure}
use Rattle.parts.proofs.Arrays.{arrays, fewer}
use Rattle.memory.specs.Sizes.{total}
use Rattle.memory.proofs.Rows.{counted_total, total_few}
use Rattle.memory.proofs.total.Goals.{After-summed}
use Rattle.memory.proofs.total.Goals as goal

summed_is : (c : After-summed) → c.summed.result ≡ total (side c.args.side) c.args.m (arrays_of c.args.arrays.file.now c.args.n)
summed_is c =
    let file = c.args.arrays.file.now in
    c.summed.ensures (λ j. measure c.args.m (array_at file j)) (λ j r h e. search rules) ∙ counted_total (side c.args.side) file c.args.n c.args.m

few : (c : After-summed) → c.summed.result ≤ 4096 * c.args.n
few c =
    let t = c.args.arrays in
    omega (arith, summed_is c, total_few (side c.args.side) t.file.now c.args.n (fewer c.args.n c.requires (arrays t)) c.args.m)

pub overflow_cast-result : goal.overflow_cast-result
overflow_cast-result c = record { fits = omega (arith, few c, c.requires, c.args.arrays.few) }

pub returns : goal.returns
returns c = (summed_is c, few c)
