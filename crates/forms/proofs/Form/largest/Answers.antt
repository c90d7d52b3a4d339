-- `forms::Form::largest` meets its contract: each level's term is as large as it can be, and the sums fit.
use mathlib.Core.Path.{◌≡◌, sym, ap, ◌∙◌}
use Prim.Native.Nat.{ℕ, ◌^◌, ◌<◌, ◌≤◌}
use lib.ListN.{length, get_or, take}
use lib.IntN.{ℤ, pos, ◌+ℤ◌, +ℤ_assoc, +ℤ_idr}
use native.Mathlib.Omega.{arith}
use Rattle.std.proofs.Common.{rules}
use Rattle.std.proofs.lemmas.List.{length-take, length-map}
use Rattle.numbers.specs.Bounds.{Small}
use Rattle.numbers.proofs.Signs.{back, small_back, as_it_is}
use Rattle.forms.specs.Form as F
use Rattle.forms.specs.Code.{loop, loops, no_loop}
use Rattle.forms.proofs.Shared.{sum_small, sum_fits, sum_back, most_of, most_more, most_small, most_of_all, loop_at}
use Rattle.forms.proofs.Form.largest.Goals.{After-best-sum}
use Rattle.forms.proofs.Form.largest.Goals as goal

-- what the call of a level gave
module _ (c : After-best-sum) where
  abbrev level : ℕ
  level = c.loop-level.level

  abbrev term : ℤ
  term = most_of (get_or c.args.self.x level (pos 0)) (loop (get_or c.args.ls.levels level no_loop))

  four : level < 4
  four = let h = c.loop-level-test.true in omega (arith, c.min-level-end.ensures)

  around : level < c.args.ls.count
  around = let h = c.loop-level-test.true in omega (arith, c.min-level-end.ensures)

  -- of some level's coefficient and some level's loop: that both are of this level is asked where the code is
  best_is : (i j : ℕ) {r : ℤ} → r ≡ most_of (back (get_or c.args.self.x i (pos 0))) (loop (get_or c.args.ls.levels j no_loop)) → i ≡ level → j ≡ level → r ≡ term
  best_is i j e at here =
      e ∙ (λ k. most_of (back (get_or c.args.self.x (at k) (pos 0))) (loop (get_or c.args.ls.levels (here k) no_loop)))
      ∙ ap (λ z. most_of z (loop (get_or c.args.ls.levels level no_loop))) (as_it_is (c.requires.0.x_small level) tt)

  term_is : c.best-sum.result ≡ term
  unfolding most_of
  term_is = best_is _ _ c.best-sum.ensures (omega arith) (omega arith)

  small : Small (2 ^ 50) c.best-sum.result
  small = rw term_is (most_small (c.requires.0.x_small level) (c.requires.1.turns level four around))

pub loop-level-init : goal.loop-level-init
unfolding F.most
loop-level-init c =
    let k = c.requires.0.k_small in
    record { sum_is = as_it_is k tt ∙ sym (+ℤ_idr c.args.self.k); small = small_back k }

pub overflow_add-sum : goal.overflow_add-sum
overflow_add-sum c = rw (as_it_is (small c) tt) (sum_fits (level c) c.loop-level.invariant.small (small c) (four c))

pub loop-level-preserved : goal.loop-level-preserved
loop-level-preserved c =
    let s = c.args in
    let i = level c in
    let inv = c.loop-level.invariant in
    let xs : length s.self.x ≡ 4 = search rules in
    let long : length s.ls.levels ≡ 4 = search rules in
    let there : i < length (loops s.ls) = rw (length-take, length-map) (omega (arith, four c, around c)) in
    let more = most_more s.self.x (loops s.ls) i (loop no_loop) (omega (arith, four c)) there in
    rw (as_it_is (small c) tt, sum_back i inv.small (small c) (four c))
    (record {
      sum_is =
          (λ j. inv.sum_is j +ℤ term_is c j) ∙ +ℤ_assoc s.self.k (F.most (take i s.self.x) (loops s.ls)) (term c)
          ∙ sym (ap (λ z. s.self.k +ℤ z) (more ∙ ap (λ l. F.most (take i s.self.x) (loops s.ls) +ℤ most_of (get_or s.self.x i (pos 0)) l) (loop_at s.ls i (around c))));
      small = sum_small i inv.small (small c);
    })

pub returns : goal.returns
unfolding F.largest
returns c =
    let s = c.args in
    let long : length s.ls.levels ≡ 4 = search rules in
    let past = c.loop-level-test.false in
    let all : length (loops s.ls) ≤ c.loop-level.level = rw (length-take, length-map) (omega (arith, c.min-level-end.ensures)) in
    c.loop-level.invariant.sum_is ∙ ap (λ z. s.self.k +ℤ z) (most_of_all s.self.x (loops s.ls) c.loop-level.level all)
