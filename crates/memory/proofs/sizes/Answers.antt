-- `memory::sizes` meets its contract: eight entries, and past the eighth no array.
use borrow.Author.Rules.{rules}
use native.Mathlib.Omega.{arith}
use mathlib.Core.Path.{ap, ◌∙◌}
use Rattle.parts.specs.Arrays.{measure}
use Rattle.parts.proofs.Arrays.{array_past, measure_nothing}
use Rattle.memory.specs.Sizes.{declared, size}
use Rattle.memory.proofs.Tables.{made}
use Rattle.memory.proofs.sizes.Goals as goal

pub returns : goal.returns
returns c =
    let t = c.args.arrays in
    made _ (size c.args.m (declared t)) _ (λ i y q k. search rules) c.from_fn.result 8 c.from_fn.ensures.items
    (λ q h. ap (measure c.args.m) (array_past t.file.now t.count q (omega (arith, t.few))) ∙ measure_nothing c.args.m)
