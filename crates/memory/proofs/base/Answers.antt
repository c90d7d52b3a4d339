-- `memory::base` meets its contract: there is a side just where there is an array.
use mathlib.Core.Path.{sym, ◌∙◌}
use native.Mathlib.Omega.{arith}
use Rattle.kernel.specs.Named.{side}
use Rattle.parts.proofs.Arrays.{arrays}
use Rattle.memory.proofs.Rows.{there_side, past_side, base_is, base_past}
use Rattle.memory.proofs.base.Goals as goal

pub total-requires : goal.total-requires
total-requires c =
    let t = c.args.arrays in
    let here = there_side t.file.now t.count c.args.q c.in-Some.side (sym c.side.ensures ∙ c.in-Some.is) in
    omega (arith, here.0)

pub returns-in-Some : goal.returns-in-Some
returns-in-Some c =
    let t = c.args.arrays in
    let here = there_side t.file.now t.count c.args.q c.in-Some.side (sym c.side.ensures ∙ c.in-Some.is) in
    c.total.ensures.0 ∙ base_is t.file.now t.count c.args.q here.0 c.args.m (side c.in-Some.side) here.1

pub returns-in-None : goal.returns-in-None
returns-in-None c =
    let t = c.args.arrays in
    sym (base_past t.file.now t.count c.args.q (past_side t.file.now t.count c.args.q (arrays t) (sym c.side.ensures ∙ c.in-None.is)) (arrays t) c.args.m)
