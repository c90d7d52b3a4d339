-- Open blocks in a row: one more, one changed, one fewer.
use Prim.Native.Nat.{ℕ, zero, suc, ◌+◌, ◌*◌, ◌/◌, ◌-◌, ◌<◌, ◌≤◌}
use mathlib.Core.Path.{◌≡◌, refl, sym, ap, ap₂, subst, ◌∙◌}
use mathlib.Core.Bool.{Bool, true, false, ◌&&◌}
use mathlib.Core.List.{List, [], ◌∷◌}
use native.Mathlib.Omega.{arith}
use native.Mathlib.Nat as NatL
use lib.Dec.{leb}
use lib.ListN.{length, get_or, set}
use lib.Seq.{get_or-set_other, get_or-set_same}
use borrow.Author.Tests.{le-leb, lt-leb}
use Rattle.numbers.specs.Result.{ok, stop, need, ◌>>=◌}
use Rattle.kernel.specs.Reading as Reading
use Rattle.kernel.specs.Reading.{open_else, open_loops, all_passes, opened, after_else, after_end}
use Rattle.read_blocks.specs.declared.open.Open.{Open}
use Rattle.read_blocks.specs.declared.open.Open.TheVariants.{For, If, Else}
use Rattle.read_blocks.specs.declared.open.OpenBlocks.{OpenBlocks}
use Rattle.read_blocks.specs.Blocks.{block, first}
use Rattle.read_blocks.specs.View.{opens}

pub length_first : (bs : List Open) (d : ℕ) → length (first bs d) ≡ d
unfolding first
length_first bs zero = refl
length_first bs (suc d) = ap suc (length_first bs d)

-- what is not yet open may change
pub first_set : (bs : List Open) (d i : ℕ) (b : Open) → d ≤ i → first (set bs i b) d ≡ first bs d
unfolding first
first_set bs zero i b h = refl
first_set bs (suc d) i b h = ap₂ (λ x os. block x ∷ os) (get_or-set_other bs i d b If (λ e. differ e)) (first_set bs d i b (omega arith))
  where
    differ : d ≡ i → ⊥
    differ e = omega arith

pub loops_more : (b : Open) (os : List Reading.Open) → open_loops (block b ∷ os) ≡ open_loops os + open_loops (block b ∷ [])
unfolding open_loops block
loops_more (For n) os = omega arith
loops_more If os = omega arith
loops_more Else os = omega arith

pub passes_more : (b : Open) (os : List Reading.Open) → all_passes (block b ∷ os) ≡ all_passes os * all_passes (block b ∷ [])
unfolding all_passes block
passes_more (For n) os = NatL.mul_comm n (all_passes os) ∙ ap (λ m. all_passes os * m) (sym (NatL.mul-one n))
passes_more If os = sym (NatL.mul-one (all_passes os))
passes_more Else os = sym (NatL.mul-one (all_passes os))

-- at most one loop
pub one_loop : (b : Open) → open_loops (block b ∷ []) ≤ 1
unfolding block open_loops
one_loop (For n) = omega arith
one_loop If = omega arith
one_loop Else = omega arith

-- ---- the innermost of them

pub top : (bs : List Open) (d : ℕ) → 0 < d → first bs d ≡ block (get_or bs (d - 1) If) ∷ first bs (d - 1)
unfolding first
top bs zero h = absurd (omega arith)
top bs (suc d) h =
    let e : d ≡ suc d - 1 = omega arith in
    ap (λ i. block (get_or bs i If) ∷ first bs i) e

pub pushed : (bs : List Open) (d : ℕ) (b : Open) → d < length bs → first (set bs d b) (d + 1) ≡ block b ∷ first bs d
pushed bs d b h =
    let e : d + 1 - 1 ≡ d = omega arith in
    top (set bs d b) (d + 1) (omega arith)
    ∙ ap (λ i. block (get_or (set bs d b) i If) ∷ first (set bs d b) i) e
    ∙ ap₂ (λ x os. block x ∷ os) (get_or-set_same bs d b If h) (first_set bs d d b (omega arith))

pub changed : (bs : List Open) (d : ℕ) (b : Open) → 0 < d → d ≤ length bs → first (set bs (d - 1) b) d ≡ block b ∷ first bs (d - 1)
changed bs d b h l =
    top (set bs (d - 1) b) d h
    ∙ ap₂ (λ x os. block x ∷ os) (get_or-set_same bs (d - 1) b If (omega arith)) (first_set bs (d - 1) (d - 1) b (omega arith))

-- ---- one more block

-- the three tests of a block that opens
module _ (os : List Reading.Open) where
  by_tests : (a b c : Bool) → leb (length os) 8 ≡ a → leb (open_loops os) 4 ≡ b → leb (all_passes os) 65536 ≡ c → opened os ≡ (need 5 (a && b && c) >>= λ _. ok os)
  unfolding opened
  by_tests a b c x y z = (λ i. need 5 (x i && y i && z i) >>= λ _. ok os)

  pub opened_deep : 8 < length os → opened os ≡ stop 5
  unfolding need ◌>>=◌
  opened_deep h = by_tests false (leb (open_loops os) 4) (leb (all_passes os) 65536) (lt-leb (length os) 8 h) refl refl

  pub opened_loops : length os ≤ 8 → 4 < open_loops os → opened os ≡ stop 5
  unfolding need ◌>>=◌
  opened_loops h k = by_tests true false (leb (all_passes os) 65536) (le-leb (length os) 8 h) (lt-leb (open_loops os) 4 k) refl

  pub opened_passes : length os ≤ 8 → open_loops os ≤ 4 → 65536 < all_passes os → opened os ≡ stop 5
  unfolding need ◌>>=◌
  opened_passes h k l = by_tests true true false (le-leb (length os) 8 h) (le-leb (open_loops os) 4 k) (lt-leb (all_passes os) 65536 l)

  pub opened_fine : length os ≤ 8 → open_loops os ≤ 4 → all_passes os ≤ 65536 → opened os ≡ ok os
  unfolding need ◌>>=◌
  opened_fine h k l = by_tests true true true (le-leb (length os) 8 h) (le-leb (open_loops os) 4 k) (le-leb (all_passes os) 65536 l)

-- by the loops and the passes of the block
module _ (n : OpenBlocks) (b : Open) (loops passes : ℕ) (el : loops ≡ open_loops (block b ∷ [])) (ep : passes ≡ all_passes (block b ∷ [])) where
  abbrev more : List Reading.Open
  more = block b ∷ opens n

  deep : length more ≡ suc n.depth
  unfolding opens
  deep = ap suc (length_first n.blocks n.depth)

  loops_then : open_loops more ≡ n.loops + loops
  unfolding opens
  loops_then = loops_more b (opens n) ∙ ap₂ ◌+◌ (sym n.loops_are) (sym el)

  passes_then : all_passes more ≡ n.product * passes
  unfolding opens
  passes_then = passes_more b (opens n) ∙ ap₂ ◌*◌ (sym n.product_is) (sym ep)

  pub too_deep : 8 ≤ n.depth → opened more ≡ stop 5
  too_deep h = opened_deep more (omega (arith, deep))

  module _ (h : n.depth < 8) where
    pub too_many : 4 < n.loops + loops → opened more ≡ stop 5
    too_many k = opened_loops more (omega (arith, deep)) (omega (arith, loops_then))

    module _ (k : n.loops + loops ≤ 4) where
      pub too_long : 65536 < n.product * passes → opened more ≡ stop 5
      too_long l = opened_passes more (omega (arith, deep)) (omega (arith, loops_then)) (rw passes_then l)

    -- it stands in the row
    module _ (eight : length n.blocks ≡ 8) where
      pub grown_first : first (set n.blocks n.depth b) (n.depth + 1) ≡ more
      unfolding opens
      grown_first = pushed n.blocks n.depth b (omega arith)

      pub grown_loops : n.loops + loops ≡ open_loops (first (set n.blocks n.depth b) (n.depth + 1))
      grown_loops = sym (ap open_loops grown_first ∙ loops_then)

      pub grown_passes : n.product * passes ≡ all_passes (first (set n.blocks n.depth b) (n.depth + 1))
      grown_passes = sym (ap all_passes grown_first ∙ passes_then)

      pub one_more : n.loops + loops ≤ 4 → n.product * passes ≤ 65536 → ok (first (set n.blocks n.depth b) (n.depth + 1)) ≡ opened more
      one_more k l = ap ok grown_first ∙ sym (opened_fine more (omega (arith, deep)) (omega (arith, loops_then)) (rw passes_then l))

-- ---- the innermost block at its else, and at its end

pub else_none : (n : OpenBlocks) → n.depth ≡ 0 → after_else (opens n) ≡ stop 4
unfolding opens first after_else
else_none n e = ap (λ d. after_else (first n.blocks d)) e

pub end_none : (n : OpenBlocks) → n.depth ≡ 0 → after_end (opens n) ≡ stop 4
unfolding opens first after_end
end_none n e = ap (λ d. after_end (first n.blocks d)) e

-- an innermost block that is no if's before its else has none
no_else : (w : Open) (os : List Reading.Open) → (w ≡ If → ⊥) → after_else (block w ∷ os) ≡ stop 4
unfolding block after_else
no_else (For n) os h = refl
no_else If os h = absurd (h refl)
no_else Else os h = refl

-- factors of a product that is not 0
left_factor : (a b : ℕ) → 1 ≤ a * b → 1 ≤ a
left_factor zero b h = absurd (nothing (subst (λ m. 1 ≤ m) (NatL.zero-mul b) h))
  where
    nothing : 1 ≤ 0 → ⊥
    nothing h = omega arith
left_factor (suc a) b h = omega arith

right_factor : (a b : ℕ) → 1 ≤ a * b → 1 ≤ b
right_factor a b h = left_factor b a (subst (λ m. 1 ≤ m) (NatL.mul_comm a b) h)

module _ (n : OpenBlocks) (h : 0 < n.depth) where
  abbrev innermost : Open
  innermost = get_or n.blocks (n.depth - 1) If

  abbrev others : List Reading.Open
  others = first n.blocks (n.depth - 1)

  pub opens_top : opens n ≡ block innermost ∷ others
  unfolding opens
  opens_top = top n.blocks n.depth h

  -- with its innermost block by another name
  opens_as : {w : Open} → innermost ≡ w → opens n ≡ block w ∷ others
  opens_as e = opens_top ∙ ap (λ w. block w ∷ others) e

  loops_as : {w : Open} → innermost ≡ w → n.loops ≡ open_loops (block w ∷ others)
  unfolding opens
  loops_as e = n.loops_are ∙ ap open_loops (opens_as e)

  product_as : {w : Open} → innermost ≡ w → n.product ≡ all_passes (block w ∷ others)
  unfolding opens
  product_as e = n.product_is ∙ ap all_passes (opens_as e)

  pub else_refused : (innermost ≡ If → ⊥) → after_else (opens n) ≡ stop 4
  else_refused w = ap after_else opens_top ∙ no_else innermost others w

  module _ (eight : length n.blocks ≡ 8) (w : innermost ≡ If) where
    turned_first : first (set n.blocks (n.depth - 1) Else) n.depth ≡ open_else ∷ others
    unfolding block
    turned_first = changed n.blocks n.depth Else h (omega (arith, n.shallow))

    pub turned_loops : n.loops ≡ open_loops (first (set n.blocks (n.depth - 1) Else) n.depth)
    unfolding block open_loops
    turned_loops = loops_as w ∙ sym (ap open_loops turned_first)

    pub turned_passes : n.product ≡ all_passes (first (set n.blocks (n.depth - 1) Else) n.depth)
    unfolding block all_passes
    turned_passes = product_as w ∙ sym (ap all_passes turned_first)

    pub turned : ok (first (set n.blocks (n.depth - 1) Else) n.depth) ≡ after_else (opens n)
    unfolding block after_else
    turned = ap ok turned_first ∙ sym (ap after_else (opens_as w))

  pub end_refused : innermost ≡ If → after_end (opens n) ≡ stop 4
  unfolding block after_end
  end_refused w = ap after_end (opens_as w)

  pub end_of_if : innermost ≡ Else → ok others ≡ after_end (opens n)
  unfolding block after_end
  end_of_if w = sym (ap after_end (opens_as w))

  pub if_loops : innermost ≡ Else → n.loops ≡ open_loops others
  unfolding block open_loops
  if_loops w = loops_as w

  pub if_passes : innermost ≡ Else → n.product ≡ all_passes others
  unfolding block all_passes
  if_passes w = product_as w

  module _ {m : ℕ} (w : innermost ≡ For m) where
    pub end_of_for : ok others ≡ after_end (opens n)
    unfolding block after_end
    end_of_for = sym (ap after_end (opens_as w))

    pub for_loops : n.loops ≡ suc (open_loops others)
    unfolding block open_loops
    for_loops = loops_as w

    pub for_passes : n.product ≡ m * all_passes others
    unfolding block all_passes
    for_passes = product_as w

    for_some : 1 ≤ m * all_passes others
    for_some = subst (λ p. 1 ≤ p) for_passes n.some_passes

    -- what the code needs to take it away
    pub for_there : 1 ≤ m
    for_there = left_factor m (all_passes others) for_some

    pub passes_left : n.product / m ≡ all_passes others
    passes_left = ap (λ p. p / m) for_passes ∙ NatL.mul-div_right (all_passes others) {m = m} for_there

    pub passes_some : 1 ≤ n.product / m
    passes_some = subst (λ p. 1 ≤ p) (sym passes_left) (right_factor m (all_passes others) for_some)
