-- `forms::Form::value` meets its contract: each product and each sum fits.
use mathlib.Core.Path.{◌≡◌, sym, ap, ◌∙◌}
use mathlib.Core.List.{List}
use Prim.Native.Nat.{ℕ, ◌+◌, ◌*◌, ◌^◌, ◌<◌}
use lib.ListN.{length, get_or, take}
use lib.IntN.{ℤ, pos, ◌+ℤ◌, ◌*ℤ◌, +ℤ_assoc, +ℤ_idr}
use native.Mathlib.Omega.{arith}
use mir.Syntax.{w64}
use mir.Val.{SFits}
use Rattle.std.proofs.Common.{rules}
use Rattle.std.proofs.lemmas.List.{take_all}
use Rattle.numbers.specs.Bounds.{Small}
use Rattle.numbers.proofs.Signs.{back, small_mul, small_back, product_back, back_product, fits, as_it_is}
use Rattle.forms.specs.Form as F
use Rattle.forms.specs.Code.{Within}
use Rattle.forms.specs.declared.Form.{Form}
use Rattle.forms.proofs.Shared.{sum_small, sum_fits, sum_back, terms_more}
use Rattle.forms.proofs.Form.value.Goals as goal

-- the sum so far, and the term of a level more, with the counter of level j: that j is the level is asked where the code is
module _ (f : Form) (cs : List ℤ) (h : Within (2 ^ 50) (2 ^ 33) f) (k : (level : ℕ) → Small (2 ^ 17) (get_or cs level (pos 0))) (level j : ℕ) (here : level < 4) {s : ℤ} (small : Small (2 ^ 50 * (level + 1)) s) where
  abbrev term : ℤ
  term = get_or f.x level (pos 0) *ℤ get_or cs j (pos 0)

  abbrev coded : ℤ
  coded = back (back (get_or f.x level (pos 0)) *ℤ back (get_or cs j (pos 0)))

  coded_is : coded ≡ term
  coded_is = back_product (h.x_small level) (k j) tt tt tt

  term_small : Small (2 ^ 50) term
  term_small = small_mul (h.x_small level) (k j)

  next_fits : SFits w64 (s +ℤ coded)
  next_fits = rw coded_is (sum_fits level small term_small here)

  next : back (s +ℤ coded) ≡ s +ℤ term
  next = (λ i. back (s +ℤ coded_is i)) ∙ sum_back level small term_small here

  next_small : Small (2 ^ 50 * (level + 1 + 1)) (back (s +ℤ coded))
  next_small = rw next (sum_small level small term_small)

  next_is : length f.x ≡ 4 → s ≡ f.k +ℤ F.terms (take level f.x) cs → j ≡ level → back (s +ℤ coded) ≡ f.k +ℤ F.terms (take (level + 1) f.x) cs
  next_is four is at =
      let t = get_or f.x level (pos 0) *ℤ get_or cs level (pos 0) in
      next ∙ ap (λ n. s +ℤ get_or f.x level (pos 0) *ℤ get_or cs n (pos 0)) at ∙ ap (λ z. z +ℤ t) is ∙ +ℤ_assoc f.k (F.terms (take level f.x) cs) t
      ∙ sym (ap (λ z. f.k +ℤ z) (terms_more f.x cs level (omega arith)))

pub loop-level-init : goal.loop-level-init
unfolding F.terms
loop-level-init c =
    let k = c.requires.0.k_small in
    record { sum_is = as_it_is k tt ∙ sym (+ℤ_idr c.args.self.k); small = small_back k }

pub overflow_mul-sum : goal.overflow_mul-sum
overflow_mul-sum c = fits (product_back (c.requires.0.x_small c.loop-level.level) (c.requires.1 _)) tt

pub overflow_add-sum : goal.overflow_add-sum
overflow_add-sum c = next_fits c.args.self c.args.counters c.requires.0 c.requires.1 c.loop-level.level _ c.loop-level-test.true c.loop-level.invariant.small

pub loop-level-preserved : goal.loop-level-preserved
loop-level-preserved c =
    let s = c.args in
    let inv = c.loop-level.invariant in
    let four : length s.self.x ≡ 4 = search rules in
    record {
      sum_is = next_is s.self s.counters c.requires.0 c.requires.1 c.loop-level.level _ c.loop-level-test.true inv.small four inv.sum_is (omega arith);
      small = next_small s.self s.counters c.requires.0 c.requires.1 c.loop-level.level _ c.loop-level-test.true inv.small;
    }

pub returns : goal.returns
unfolding F.value
returns c =
    let s = c.args in
    let four : length s.self.x ≡ 4 = search rules in
    let past = c.loop-level-test.false in
    let all = take_all c.loop-level.level s.self.x (omega arith) in
    c.loop-level.invariant.sum_is ∙ ap (λ xs. s.self.k +ℤ F.terms xs s.counters) all
