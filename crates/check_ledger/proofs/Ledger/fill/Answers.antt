-- `check_ledger::Ledger::fill` meets its contract.
use Prim.Native.Nat.{◌<◌}
use mathlib.Core.Path.{refl, ap, ◌∙◌}
use Rattle.numbers.proofs.Signs.{as_it_is}
use Rattle.forms.specs.Form as F
use Rattle.forms.specs.Code.{form}
use Rattle.kernel.specs.Ledger as L
use native.Mathlib.Omega.{arith}
use lib.ListN.{length, get_or}
use Rattle.check_ledger.specs.View.{ledger, no_form}
use Rattle.check_ledger.proofs.Bounds.{bounded_same}
use Rattle.check_ledger.proofs.Steps.{held_at, filled}
use Rattle.check_ledger.proofs.Ledger.fill.Goals as goal

pub returns : goal.returns
unfolding L.fill_step
returns c =
    let l = c.args.self in
    let q = c.args.q in
    let along = c.along-index in
    let k : q < length l.positions = omega (arith, c.requires.1, c.requires.2.1.whole) in (
      λ K a d _ h first step.
          let next = along.ensures ∙ (λ i. F.along ((as_it_is c.requires.3 tt ∙ first) i) ((as_it_is c.requires.4 tt ∙ step) i) (form (get_or l.positions q no_form))) in
          c.passed.ensures.0 a d h
          ∙ ap (L.passed q) (held_at a d l c.args.b _ (omega arith) ∙ ap (λ x. L.hold c.args.b x (ledger a d l)) (filled a d l K q next h k)),
      λ n h. c.passed.ensures.1 n (bounded_same h refl),
    )
