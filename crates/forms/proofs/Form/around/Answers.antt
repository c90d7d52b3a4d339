-- `forms::Form::around` meets its contract: the levels past those around hold zeros.
use Prim.Native.Nat.{ℕ, ◌-◌}
use mathlib.Core.Path.{◌≡◌, sym, ap, ◌∙◌}
use mathlib.Core.List.{List}
use lib.IntN.{ℤ, pos}
use lib.ListN.{length, take, drop, length-drop}
use Rattle.std.proofs.Common.{rules}
use Rattle.std.proofs.Math.Seq.{take-length}
use Rattle.numbers.specs.Lists.{every}
use Rattle.numbers.specs.Words.{equal}
use Rattle.forms.specs.Form as F
use Rattle.forms.proofs.Shared.{nothing_past}
use Rattle.forms.proofs.Form.around.Goals as goal

-- the levels from n on, as they are lent
lent : (n : ℕ) (xs : List ℤ) → every (equal (pos 0)) (take (length xs - n) (drop n xs)) ≡ every (equal (pos 0)) (drop n xs)
lent n xs = ap (every (equal (pos 0))) (ap (λ m. take m (drop n xs)) (sym (length-drop n xs)) ∙ take-length (drop n xs))

pub returns-in-0 : goal.returns-in-0
unfolding F.around
returns-in-0 c = rw c.in-0.is c.zeros.ensures

pub returns-in-1 : goal.returns-in-1
unfolding F.around
returns-in-1 c = rw c.in-1.is (c.zeros-in-1.ensures ∙ lent 1 c.args.self.x)

pub returns-in-2 : goal.returns-in-2
unfolding F.around
returns-in-2 c = rw c.in-2.is (c.zeros-in-2.ensures ∙ lent 2 c.args.self.x)

pub returns-in-3 : goal.returns-in-3
unfolding F.around
returns-in-3 c = rw c.in-3.is (c.zeros-in-3.ensures ∙ lent 3 c.args.self.x)

pub returns-in_default : goal.returns-in_default
returns-in_default c = nothing_past c.args.n c.args.self (search rules)
