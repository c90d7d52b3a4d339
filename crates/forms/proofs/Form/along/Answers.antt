-- `forms::Form::along` meets its contract: the sum and each product fit, and the closure changes nothing.
use mathlib.Core.Path.{◌≡◌, ap, ◌∙◌}
use lib.ListN.{length}
use Prim.Native.Nat.{◌^◌}
use lib.IntN.{pos, ◌+ℤ◌, ◌*ℤ◌, *ℤ-zero}
use Rattle.std.proofs.lemmas.List.{get_or_read}
use native.Mathlib.Omega.{arith}
use mir.Syntax.{w64}
use mir.Val.{SFits}
use Rattle.std.proofs.Common.{rules, tests}
use Rattle.std.proofs.lemmas.Iterator.Adapters.{serves_from_places}
use Rattle.numbers.proofs.Signs.{back, small_add, small_mul, small_back, sum_back, product_back, back_product, fits, as_it_is}
use Rattle.forms.specs.Form as F
use Rattle.forms.proofs.Shared.{list_road, mapped}
use Rattle.forms.proofs.Form.along.Goals as goal

pub overflow_add-result : goal.overflow_add-result
overflow_add-result c = fits (sum_back c.requires.1.0 (product_back c.requires.1.1 c.requires.0.k_small)) tt

pub map-requires : goal.map-requires
map-requires c = (
  omega arith,
  (
    omega arith,
    (
      omega arith,
      serves_from_places (list_road c.args.self.x) (λ x q k. search (rules, tests)) (λ x k l e.
          let x_is = get_or_read c.args.self.x k x l e (pos 0) in
          let here : SFits w64 (back (back c.args.step) *ℤ back x) = rw x_is (fits (product_back (small_back c.requires.1.1) (c.requires.0.x_small k)) tt) in
          search rules),
    ),
  ),
)

pub returns : goal.returns
unfolding F.along
returns c =
    let s = c.args in
    let four : length s.self.x ≡ 4 = search rules in
    let k_is =
    (λ i. back (as_it_is c.requires.1.0 tt i +ℤ back_product c.requires.1.1 c.requires.0.k_small tt tt tt i))
    ∙ as_it_is (small_add c.requires.1.0 (small_mul c.requires.1.1 c.requires.0.k_small)) tt in
    let x_is = mapped _ (λ x. s.step *ℤ x) _ (2 ^ 33) (λ x y q b k.
    let x_fits : SFits w64 x = fits b tt in
    let here : SFits w64 (back (back s.step) *ℤ back x) = fits (product_back (small_back c.requires.1.1) b) tt in
    let is : back (back (back s.step) *ℤ back x) ≡ s.step *ℤ x = back_product (small_back c.requires.1.1) b tt tt tt ∙ ap (λ z. z *ℤ x) (as_it_is c.requires.1.1 tt) in
    search (rules, tests)) s.self.x c.map.result 4 c.requires.0.x_small four (*ℤ-zero s.step) c.map.ensures.items in
    λ i. record { k = k_is i; x = x_is i }
