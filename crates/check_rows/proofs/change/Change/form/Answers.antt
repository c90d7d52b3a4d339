-- `check_rows::change::Change::form` meets its contract.
use Prim.Native.Nat.{◌^◌}
use mathlib.Core.Path.{ap, ◌∙◌}
use Rattle.numbers.specs.Bounds.{Small}
use Rattle.numbers.proofs.Signs.{as_it_is}
use Rattle.forms.specs.Form as F
use Rattle.forms.specs.Code.{form}
use Rattle.check_rows.specs.Changes.{counted}
use Rattle.check_rows.proofs.Changes.{amount_small, change_right}
use Rattle.check_rows.proofs.change.Change.form.Goals.{In-At, In-By}
use Rattle.check_rows.proofs.change.Change.form.Goals as goal

small : (c : In-At) → Small (2 ^ 16) c.in-At.c
small c = amount_small c.in-At.is c.args.self.small

small_step : (c : In-By) → Small (2 ^ 16) c.in-By.step
small_step c = amount_small c.in-By.is c.args.self.small

pub returns-in-At : goal.returns-in-At
unfolding counted
returns-in-At c =
    change_right c.in-At.is c.args.self.small c.args.self.level c.requires
    (c.put_at.ensures ∙ ap (λ z. F.put_at c.args.self.level z (form c.args.f)) (as_it_is (small (goal.at.returns-in-At c).In-At) tt))

pub returns-in-By : goal.returns-in-By
unfolding counted
returns-in-By c =
    change_right c.in-By.is c.args.self.small c.args.self.level c.requires
    (c.moved_by.ensures ∙ ap (λ z. F.moved_by c.args.self.level z (form c.args.f)) (as_it_is (small_step (goal.at.returns-in-By c).In-By) tt))
