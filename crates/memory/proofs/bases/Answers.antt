-- `memory::bases` meets its contract: eight entries, and past the eighth no array.
use borrow.Author.Rules.{rules}
use native.Mathlib.Omega.{arith}
use Rattle.parts.proofs.Arrays.{arrays}
use Rattle.memory.specs.Sizes.{declared, base}
use Rattle.memory.proofs.Rows.{base_past}
use Rattle.memory.proofs.Tables.{made}
use Rattle.memory.proofs.bases.Goals as goal

pub returns : goal.returns
returns c =
    let t = c.args.arrays in
    made _ (base c.args.m (declared t)) _ (λ i y q k. search rules) c.from_fn.result 8 c.from_fn.ensures.items
    (λ q h. base_past t.file.now t.count q (omega (arith, t.few)) (arrays t) c.args.m)
