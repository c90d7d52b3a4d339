-- `forms::plus_times` meets its contract: product and sum fit.
use mathlib.Core.Path.{◌∙◌}
use lib.IntN.{◌+ℤ◌}
use Rattle.numbers.proofs.Signs.{back, small_add, small_mul, sum_back, product_back, back_product, fits, as_it_is}
use Rattle.forms.proofs.plus_times.Goals as goal

pub overflow_add-result : goal.overflow_add-result
overflow_add-result c = fits (sum_back c.requires.0 (product_back c.requires.1.0 c.requires.1.1)) tt

pub returns : goal.returns
returns c =
    (λ i. back (as_it_is c.requires.0 tt i +ℤ back_product c.requires.1.0 c.requires.1.1 tt tt tt i))
    ∙ as_it_is (small_add c.requires.0 (small_mul c.requires.1.0 c.requires.1.1)) tt
