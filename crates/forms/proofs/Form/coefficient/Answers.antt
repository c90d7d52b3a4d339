-- `forms::Form::coefficient` meets its contract.
use mathlib.Core.Path.{◌≡◌, ◌∙◌}
use lib.ListN.{get_or}
use lib.IntN.{pos}
use Rattle.std.proofs.Common.{arith}
use Rattle.std.proofs.lemmas.Grind.{common_steps}
use Rattle.numbers.proofs.Signs.{as_returned}
use Rattle.forms.specs.Form as F
use Rattle.forms.proofs.Form.coefficient.Goals as goal

pub returns : goal.returns
unfolding F.coefficient
returns c =
    let e : c.unwrap_or.result ≡ get_or c.args.self.x c.args.level (pos 0) = grind (arith, common_steps) in
    as_returned {z = c.unwrap_or.result} c.unwrap_or.type_inv ∙ e
