-- `memory::size` meets its contract; past the last array there is none.
use mathlib.Core.Path.{sym, ap, ◌∙◌}
use Rattle.parts.specs.Arrays.{measure}
use Rattle.parts.proofs.Arrays.{array_is, array_past, measure_nothing}
use Rattle.memory.proofs.size.Goals as goal

pub returns-then-q-arrays : goal.returns-then-q-arrays
returns-then-q-arrays c =
    let t = c.args.arrays in
    c.size.ensures ∙ sym (ap (measure c.args.m) (array_is t.file.now t.count c.args.q c.if-q-arrays.true))

pub returns-else-q-arrays : goal.returns-else-q-arrays
returns-else-q-arrays c =
    let t = c.args.arrays in
    sym (ap (measure c.args.m) (array_past t.file.now t.count c.args.q c.if-q-arrays.false) ∙ measure_nothing c.args.m)
