-- `check_rules::at_next` meets its contract: first index and step are the array's, and small.
use Prim.Native.Nat.{◌^◌}
use mathlib.Core.Path.{sym, subst}
use Rattle.numbers.specs.Bounds.{Small}
use Rattle.numbers.proofs.Signs.{small_back, wider}
use Rattle.parts.proofs.Arrays.{arrays, first_small, step_small}
use Rattle.check_rules.proofs.at_next.Goals as goal

pub along-next-requires : goal.along-next-requires
along-next-requires c =
    let t = c.args.arrays in
    let first = first_small t.file.now t.count c.args.a.q c.requires.0 (arrays t) in
    let step = step_small t.file.now t.count c.args.a.q c.requires.0 (arrays t) in
    (c.requires.1, (small_back (subst (Small (2 ^ 20)) (sym c.first.ensures) (wider first tt)), small_back (subst (Small (2 ^ 12)) (sym c.step.ensures) step)))
