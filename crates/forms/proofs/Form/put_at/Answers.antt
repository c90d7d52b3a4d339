-- `forms::Form::put_at` meets its contract.
use mathlib.Core.Path.{◌∙◌}
use Rattle.numbers.proofs.Signs.{small_back}
use Rattle.forms.specs.Form as F
use Rattle.forms.proofs.Shared.{term_small, plus_term}
use Rattle.forms.proofs.Form.put_at.Goals as goal

pub plus_times-k-requires : goal.plus_times-k-requires
plus_times-k-requires c =
    let x_small = term_small c.args.level c.requires.0 c.requires.1 c.coefficient.ensures in
    (small_back c.requires.0.k_small, (small_back x_small, small_back c.requires.1))

pub returns : goal.returns
unfolding F.put_at
returns c =
    let k_is = plus_term c.args.level c.requires.0 c.requires.1 c.coefficient.ensures {r = c.plus_times-k.result} c.plus_times-k.type_inv c.plus_times-k.ensures in
    c.with_k.ensures ∙ (λ i. record { k = k_is i; x = (c.cleared.ensures i).x })
