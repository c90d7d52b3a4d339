-- `forms::best` meets its contract: the larger of the products at the two ends.
use mathlib.Core.Path.{◌≡◌, sym, ap, ◌∙◌}
use mathlib.Core.Bool.{cond}
use Prim.Native.Nat.{◌^◌}
use lib.IntN.{◌*ℤ◌}
use lib.Signed.{le_z}
use Rattle.numbers.specs.Bounds.{Small}
use Rattle.numbers.proofs.Signs.{back, product_back, back_product, fits}
use Rattle.forms.specs.Form as F
use Rattle.forms.specs.Code.{loop}
use Rattle.forms.proofs.best.Goals.{After-last}
use Rattle.forms.proofs.best.Goals as goal

last_small : (a : After-last) → Small (2 ^ 17) a.last.result
last_small a = rw a.last.ensures a.requires.1.last_small

pub overflow_mul-a : goal.overflow_mul-a
overflow_mul-a c = let p = c.requires in fits (product_back p.0 p.1.first_small) tt

pub overflow_mul-b : goal.overflow_mul-b
overflow_mul-b c = let p = c.requires in fits (product_back p.0 (last_small (goal.at.overflow_mul-b c).After-last)) tt

-- what the two locals hold
module _ (a : After-last) where
  a_is : back (back a.args.x *ℤ back a.args.l.first) ≡ a.args.x *ℤ a.args.l.first
  a_is = back_product a.requires.0 a.requires.1.first_small tt tt tt

  b_is : back (back a.args.x *ℤ back a.last.result) ≡ a.args.x *ℤ F.last (loop a.args.l)
  b_is = back_product a.requires.0 (last_small a) tt tt tt ∙ ap (λ z. a.args.x *ℤ z) a.last.ensures

pub returns-then-a-b : goal.returns-then-a-b
unfolding F.larger
returns-then-a-b c =
    let s = c.args in
    b_is (goal.at.returns-then-a-b c).After-last ∙ sym (ap (λ t. cond t (s.x *ℤ F.last (loop s.l)) (s.x *ℤ s.l.first)) (sym (λ i. le_z (a_is (goal.at.returns-then-a-b c).After-last i) (b_is (goal.at.returns-then-a-b c).After-last i)) ∙ c.if-a-b.true))

pub returns-else-a-b : goal.returns-else-a-b
unfolding F.larger
returns-else-a-b c =
    let s = c.args in
    a_is (goal.at.returns-else-a-b c).After-last ∙ sym (ap (λ t. cond t (s.x *ℤ F.last (loop s.l)) (s.x *ℤ s.l.first)) (sym (λ i. le_z (a_is (goal.at.returns-else-a-b c).After-last i) (b_is (goal.at.returns-else-a-b c).After-last i)) ∙ c.if-a-b.false))
