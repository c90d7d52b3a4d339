-- What a rule that opens and closes no block comes to: by its line of the table, what it asks of the ledger's entries and then its step.
use Prim.Native.Nat.{ℕ, ◌≤◌, ◌<◌}
use mathlib.Core.Path.{◌≡◌, refl, sym, ap}
use mathlib.Core.Bool.{Bool, true, false}
use mathlib.Core.List.{List}
use native.Mathlib.Omega.{arith}
use borrow.Author.Rules.{rules}
use lib.ListN.{length, get_or}
use Rattle.std.proofs.Common.{None}
use Rattle.numbers.specs.Result.{Result, ok, ◌>>=◌, need}
use Rattle.forms.specs.Form.{Loop}
use Rattle.forms.specs.Code.{form}
use Rattle.kernel.specs.File.{Rec, Kernel}
use Rattle.kernel.specs.Ledger as L
use Rattle.kernel.specs.Check as Check
use Rattle.kernel.specs.Derivation.{Place, went, buffer, Rule, same_rule, read_rule, fill_rule, use_rule, move_rule, write_rule, for_rule, if_rule, else_rule, end_rule, no_rule}
use Rattle.kernel.specs.File as File
use Rattle.parts.specs.declared.Counts.{Counts}
use Rattle.check_ledger.specs.declared.Ledger.{Ledger}
use Rattle.check_ledger.specs.View.{held, ledger, no_form}
use Rattle.check_ledger.proofs.Bounds.{bounded_wider}
use Rattle.check_ledger.proofs.Steps.{position_right, holding_right}
use Rattle.check_rules.specs.View.{Named, stream_of, buffer_of, room_left, next_item, asked, asked_there, stepped, steps, arrays_taken, Steps}

-- the rules at which no block opens or closes
abbrev pub PlainRule : Rule → Type 0
PlainRule same_rule = Unit
PlainRule read_rule = Unit
PlainRule fill_rule = Unit
PlainRule use_rule = Unit
PlainRule move_rule = Unit
PlainRule write_rule = Unit
PlainRule for_rule = ⊥
PlainRule if_rule = ⊥
PlainRule else_rule = ⊥
PlainRule end_rule = ⊥
PlainRule no_rule = Unit

-- ---- steps

-- the ledger as it was, where the rule changes nothing
pub unchanged : (file : List ℕ) (c : Counts) (r : Rule) (a s : Rec) (l : Ledger) → steps r ≡ false → Steps file c r a s l l
unfolding steps stepped
unchanged file c r a s l e = record { as_said = search rules; bounded = λ m h. bounded_wider h (omega arith) }

-- ---- the effect is the step after what is asked

then_need : {A : Type 0} (n m : ℕ) (t u : Bool) (k : Unit {0} → Result ℕ A) → (need n t >>= λ _. need m u >>= k) ≡ ((need n t >>= λ _. need m u) >>= k)
unfolding need ◌>>=◌
then_need n m true u k = refl
then_need n m false u k = refl

pub effect_is : (K : Kernel) (c : Place) (r : Rule) (a s : Rec) → PlainRule r
    → Check.effect K c r a s ≡ (asked_there K c r a s >>= λ _. ok (went 1 (arrays_taken r) 1 c.opened (stepped K r a s c.ledger) c))
unfolding Check.effect Check.below_count L.next_index asked next_item room_left stream_of buffer_of stepped arrays_taken buffer ◌>>=◌
effect_is K c same_rule a s l = refl
effect_is K c read_rule a s l = then_need 11 12 _ _ _
effect_is K c fill_rule a s l = refl
effect_is K c use_rule a s l = refl
effect_is K c move_rule a s l = refl
effect_is K c write_rule a s l = then_need 11 12 _ _ _
effect_is K c for_rule a s l = absurd l
effect_is K c if_rule a s l = absurd l
effect_is K c else_rule a s l = absurd l
effect_is K c end_rule a s l = absurd l
effect_is K c no_rule a s l = refl

-- ---- of the code's entries

module _ (K : Kernel) (around : List Loop) (c : Counts) (a s : Rec) (l : Ledger) (few : c.a ≤ 8) (whole : length l.positions ≡ 8) where
  pub entries : (r : Rule) → Named c r a s
      → asked K around r a s (form (get_or l.positions (stream_of r a s) no_form)) (held (get_or l.buffers (buffer_of c.r r s) None))
      ≡ asked K around r a s (L.position (stream_of r a s) (ledger c.a c.b l)) (L.holding (buffer_of c.r r s) (ledger c.a c.b l))
  unfolding asked stream_of buffer_of
  entries same_rule h = refl
  entries read_rule h = ap (next_item K around a) (sym (position_right c.a c.b l a.q h (omega arith)))
  entries fill_rule h = ap (room_left K around s.q) (sym (position_right c.a c.b l s.q h.0 (omega (arith, h.0))))
  entries use_rule h = ap (λ g. need 13 (L.holds_just around (L.held a.q (File.form a)) g)) (sym (holding_right c.a c.b l _ (omega (arith, h.0, h.1))))
  entries move_rule h = ap (λ g. need 13 (Check.something g)) (sym (holding_right c.a c.b l _ (omega (arith, h.2, h.3))))
  entries write_rule h = ap (next_item K around a) (sym (position_right c.a c.b l a.q h (omega arith)))
  entries for_rule h = absurd h
  entries if_rule h = absurd h
  entries else_rule h = absurd h
  entries end_rule h = absurd h
  entries no_rule h = absurd h

-- they are there
module _ (c : Counts) (a s : Rec) where
  pub stream_there : (r : Rule) → Named c r a s → c.a ≤ 8 → stream_of r a s < 8
  unfolding stream_of
  stream_there r h f = search rules

  pub buffer_there : (r : Rule) → Named c r a s → c.b ≤ 16 → buffer_of c.r r s < 16
  unfolding buffer_of
  buffer_there r h f = search rules
