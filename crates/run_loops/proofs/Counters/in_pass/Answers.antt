-- `run_loops::Counters::in_pass` meets its contract: the counter is the loop's, and small.
use Prim.Native.Nat.{ℕ, ◌+◌, ◌^◌}
use mathlib.Core.Path.{refl, sym, ap, subst, ◌∙◌}
use lib.IntN.{pos}
use lib.ListN.{get_or, set}
use Rattle.numbers.specs.Bounds.{Small}
use Rattle.numbers.proofs.Signs.{as_returned}
use Rattle.run_loops.proofs.Small.{set_small}
use Rattle.run_loops.proofs.Counters.in_pass.Goals as goal

pub returns : goal.returns
returns c =
    let a = c.args.self in
    let k = c.counter in
    let z = as_returned {z = k.result} k.type_inv ∙ k.ensures.0 in
    let e = c.counting-self.ensures ∙ ap (set a.values a.level) z in
    (λ i. record { level = a.level + 1; values = e i }, refl, record { each = subst (λ vs. (i : ℕ) → Small (2 ^ 17) (get_or vs i (pos 0))) (sym e) (set_small a.values a.level _ c.requires.0.each k.ensures.1) })
