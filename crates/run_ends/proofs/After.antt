-- The record after a statement, and the blocks that the statement holds, from the front of the tree at its record.
use Prim.Native.Nat.{ℕ, suc, ◌+◌, ◌<◌}
use mathlib.Core.Path.{◌≡◌, refl, sym, ap, subst, ◌∙◌}
use mathlib.Core.List.{List, ◌∷◌}
use native.Mathlib.Omega.{arith}
use lib.ListN.{length}
use Rattle.forms.specs.Form.{Loop}
use Rattle.kernel.specs.File.{Rec, Op, does, for, if}
use Rattle.kernel.specs.Reading.{Open, open_for, open_if, open_else}
use Rattle.kernel.specs.Guarantees.{Begins, InBlock}
use Rattle.kernel.specs.Trees.{tree_at, stop_of, after_first}
use Rattle.kernel.specs.Blocks.{said, StopsAt}
use Rattle.kernel.proofs.Fronts.{From, ReadBlock, LoopFront, BranchFront, front_plain, front_loop, front_branch, front_stop}
use Rattle.kernel.proofs.Trees.{block_at, plain_tree, loop_inside, body_stops, loop_tree, branch_inside, first_stops, second_stops, branch_tree}

module _ (rs : List Rec) (i : ℕ) (b : Begins rs i) (h : i < length rs) where
  here : ReadBlock b.scope rs (tree_at rs i) b.opens i (stop_of (tree_at rs i))
  here = block_at rs i b (omega arith)

  one_more : (n : ℕ) → n + 1 ≡ suc n
  one_more n = omega arith

  -- a block that begins after record n
  in_block : (o : Open) (n m : ℕ) → n ≡ m → From b.scope rs (o ∷ b.opens) (suc m) → InBlock rs (n + 1)
  in_block o n m e f = subst (InBlock rs) (ap suc (sym e) ∙ sym (one_more n)) (record { begins = record { scope = b.scope; opens = o ∷ b.opens; reads = f }; some = omega arith })

  module _ {o : Op} (z : said rs i ≡ does o) where
    pub after_one : i + 1 ≡ after_first (tree_at rs i)
    unfolding after_first
    after_one = one_more i ∙ sym (ap after_first (plain_tree (front_plain here z) h))

  module _ (z : StopsAt rs i) where
    pub after_stop : i + 1 ≡ after_first (tree_at rs i)
    unfolding after_first
    after_stop = one_more i ∙ sym (ap after_first (front_stop here z).0)

  module _ {l : Loop} (z : said rs i ≡ for l) where
    the_loop : LoopFront b.scope rs b.opens i (stop_of (tree_at rs i)) l (tree_at rs i)
    the_loop = front_loop here z

    pub in_loop : InBlock rs (i + 1)
    in_loop = in_block (open_for l.passes) i i refl the_loop.inner.reads

    module _ (m : ℕ) (e : m ≡ stop_of (tree_at rs (i + 1))) where
      ends : m ≡ stop_of (tree_at rs (suc i))
      ends = e ∙ ap (λ n. stop_of (tree_at rs n)) (one_more i)

      pub loop_ends : m < length rs
      loop_ends = omega (arith, (loop_inside the_loop).1, body_stops the_loop, ends)

      pub after_loop : m + 1 ≡ after_first (tree_at rs i)
      unfolding after_first
      after_loop = one_more m ∙ ap suc ends ∙ sym (ap after_first (loop_tree the_loop))

  module _ {p : ℕ} (z : said rs i ≡ if p) where
    the_if : BranchFront b.scope rs b.opens i (stop_of (tree_at rs i)) p (tree_at rs i)
    the_if = front_branch here z

    pub in_if_block : InBlock rs (i + 1)
    in_if_block = in_block open_if i i refl the_if.inner.reads

    module _ (m : ℕ) (e : m ≡ stop_of (tree_at rs (i + 1))) where
      elses : m ≡ the_if.else_at
      elses = e ∙ ap (λ n. stop_of (tree_at rs n)) (one_more i) ∙ sym (first_stops the_if)

      pub first_ends : m < length rs
      first_ends = omega (arith, (branch_inside the_if).1, (branch_inside the_if).2, elses)

      pub in_else_block : InBlock rs (m + 1)
      in_else_block = in_block open_else m the_if.else_at elses the_if.other.reads

      module _ (n : ℕ) (k : n ≡ stop_of (tree_at rs (m + 1))) where
        ends_at : n ≡ stop_of (tree_at rs (suc the_if.else_at))
        ends_at = k ∙ ap (λ n. stop_of (tree_at rs n)) (one_more m ∙ ap suc elses)

        pub second_ends : n < length rs
        second_ends = omega (arith, (branch_inside the_if).2, second_stops the_if, ends_at)

        pub after_if : n + 1 ≡ after_first (tree_at rs i)
        unfolding after_first
        after_if = one_more n ∙ ap suc ends_at ∙ sym (ap after_first (branch_tree the_if))
