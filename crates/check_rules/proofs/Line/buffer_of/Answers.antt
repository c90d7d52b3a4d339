-- `Line::buffer_of` meets its contract: a use or a move that fits names a buffer.
use mathlib.Core.Path.{◌≡◌, subst}
use mathlib.Core.Logic.{inl, inr}
use Rattle.std.proofs.Common.{Result, Ok}
use Rattle.kernel.specs.Named.{rule}
use Rattle.kernel.specs.declared.codes.NoCode.{NoCode}
use Rattle.kernel.specs.declared.codes.Rule.{Rule}
use Rattle.parts.specs.Records.{rec}
use Rattle.check_rules.specs.View.{Named}
use Rattle.check_rules.proofs.Line.buffer_of.Goals as goal

pub buffer_of-requires : goal.buffer_of-requires
unfolding rule
buffer_of-requires c =
    let l = c.args.self in
    let named = λ (r : Rule). Named l.kernel.counts (rule r) (rec l.pair.array) (rec l.pair.stream) in
    λ u. elim u [ inl e ↦ (subst named (same e) l.named).0 | inr e ↦ (subst named (same e) l.named).2 ]
  where
    same : {r q : Rule} → ◌≡◌ {A = Result Rule NoCode} (Ok r) (Ok q) → r ≡ q
    same e = cc
