-- A program that reads is one block, its tree, and so from each record on: two blocks that begin at one record are the same, by recursion on the block, and the
-- trees computed from a record on are blocks, one inside the other, by recursion on the records left.
use mathlib.Core.Path.{◌≡◌, refl, sym, ap, subst, ◌∙◌}
use mathlib.Core.List.{List, [], ◌∷◌}
use Prim.Native.Nat.{ℕ, suc, ◌<◌, ◌≤◌}
use native.Mathlib.Omega.{arith}
use lib.ListN.{length, get_or, drop, drop_of_length-le, length-drop}
use lib.Seq.{drop-cons}
use Rattle.numbers.specs.Result.{ok}
use Rattle.numbers.proofs.Results.{On, on_ok, on_stop, on_at}
use Rattle.forms.specs.Form.{Loop}
use Rattle.kernel.specs.File.{Rec, nothing, Op, Statement, does, for, if, else, end, none, statement}
use Rattle.kernel.specs.Reading.{Scope, Open, open_for, open_if, open_else, after_else, after_end, after}
use Rattle.kernel.specs.Guarantees.{StatementFits, Nested, over, then, Begins}
use Rattle.kernel.specs.Blocks.{Block, stops, plain, loop, branch, said, at_an_else, at_an_end, past_the_last, IsBlock, row_over, row_plain, row_for, row_if, OneBlock}
use Rattle.kernel.specs.Trees.{in_front, blocks, tree_at, tree, stop_of, OneTree}
use Rattle.kernel.proofs.Readable.{file_reads}
use Rattle.kernel.proofs.Sayings.{kind, said_there}
use Rattle.kernel.proofs.Fronts.{op_says, opened_says, block_low, ReadBlock, PlainFront, LoopFront, BranchFront, front_plain, front_loop, front_branch, front_stop}

-- ---- no other block begins there

same_block : {c : Scope} {rs : List Rec} {t u : Block} {os : List Open} {i j k : ℕ} → IsBlock rs t i j → ReadBlock c rs u os i k → (t ≡ u) × (j ≡ k)
same_block (row_over s) g = let (e, at) = front_stop g s in (sym e, at)
same_block (row_plain {i} {o} x r) g =
    let f = front_plain g x in
    let (e, at) = same_block r f.more in
    (ap (plain i o) e ∙ sym f.is, at)
same_block {c} {rs} {os} {k} (row_for {i} {l} x b y r) g =
    let f = front_loop g x in
    let (e, m) = same_block b f.inner in
    let (e₂, at) = same_block r (subst (λ m. ReadBlock c rs f.rest os (suc m) k) (sym m) f.more) in
    ((λ z. loop i l (e z) (e₂ z)) ∙ sym f.is, at)
same_block {c} {rs} {os} {k} (row_if {i} {p} x a y b z r) g =
    let f = front_branch g x in
    let (e, m) = same_block a f.inner in
    let (e₁, m₁) = same_block b (subst (λ m. ReadBlock c rs f.second (open_else ∷ os) (suc m) f.end_at) (sym m) f.other) in
    let (e₂, at) = same_block r (subst (λ m. ReadBlock c rs f.rest os (suc m) k) (sym m₁) f.more) in
    ((λ z. branch i p (e z) (e₁ z) (e₂ z)) ∙ sym f.is, at)

-- ---- the trees of what follows are blocks, one inside the other

module _ (rs : List Rec) where
  -- the block that record i stands in, then what comes after its else or end, and so on outward
  Chain : List Block → List Open → ℕ → Type 0
  Chain [] os i = ⊥
  Chain (t ∷ ts) [] i = IsBlock rs t i (length rs)
  Chain (t ∷ ts) (open_for p ∷ os) i = (j : ℕ) × IsBlock rs t i j × (said rs j ≡ end) × Chain ts os (suc j)
  Chain (t ∷ ts) (open_if ∷ os) i = (j : ℕ) × IsBlock rs t i j × (said rs j ≡ else) × Chain ts (open_else ∷ os) (suc j)
  Chain (t ∷ ts) (open_else ∷ os) i = (j : ℕ) × IsBlock rs t i j × (said rs j ≡ end) × Chain ts os (suc j)

  -- the first block made longer at its front
  longer : {t u : Block} (ts : List Block) (os : List Open) {i k : ℕ} → ((j : ℕ) → IsBlock rs t k j → IsBlock rs u i j) → Chain (t ∷ ts) os k → Chain (u ∷ ts) os i
  unfolding Chain
  longer ts [] f h = f (length rs) h
  longer ts (open_for p ∷ os) f h = (h.0, f h.0 h.1, h.2, h.3)
  longer ts (open_if ∷ os) f h = (h.0, f h.0 h.1, h.2, h.3)
  longer ts (open_else ∷ os) f h = (h.0, f h.0 h.1, h.2, h.3)

  -- a statement in front keeps the chain
  Keeps : ℕ → Statement → List Open → List Open → Type 0
  Keeps i s os os' = (ts : List Block) → Chain ts os' (suc i) → Chain (in_front i s ts) os i

  module _ (i : ℕ) (os : List Open) where
    keeps_plain : (o : Op) → said rs i ≡ does o → Keeps i (does o) os os
    unfolding Keeps Chain in_front
    keeps_plain o e [] h = absurd h
    keeps_plain o e (t ∷ ts) h = longer ts os (λ j. row_plain e) h

    keeps_loop : (l : Loop) → said rs i ≡ for l → Keeps i (for l) os (open_for l.passes ∷ os)
    unfolding Keeps Chain in_front
    keeps_loop l e [] h = absurd h
    keeps_loop l e (b ∷ []) h = absurd h.3
    keeps_loop l e (b ∷ t ∷ ts) (m, body, ends, h) = longer ts os (λ j. row_for e body ends) h

    keeps_branch : (p : ℕ) → said rs i ≡ if p → Keeps i (if p) os (open_if ∷ os)
    unfolding Keeps Chain in_front
    keeps_branch p e [] h = absurd h
    keeps_branch p e (a ∷ []) h = absurd h.3
    keeps_branch p e (a ∷ b ∷ []) h = absurd h.3.3
    keeps_branch p e (a ∷ b ∷ t ∷ ts) (x, first, elses, (m, second, ends, h)) = longer ts os (λ j. row_if e first elses second ends) h

  keeps_else : (i : ℕ) (os : List Open) → said rs i ≡ else → On (Keeps i else os) (after_else os)
  unfolding after_else Keeps Chain in_front
  keeps_else i [] e = on_stop
  keeps_else i (open_for p ∷ os) e = on_stop
  keeps_else i (open_if ∷ os) e = on_ok (λ ts h. (i, row_over (at_an_else e), e, h))
  keeps_else i (open_else ∷ os) e = on_stop

  keeps_end : (i : ℕ) (os : List Open) → said rs i ≡ end → On (Keeps i end os) (after_end os)
  unfolding after_end Keeps Chain in_front
  keeps_end i [] e = on_stop
  keeps_end i (open_for p ∷ os) e = on_ok (λ ts h. (i, row_over (at_an_end e), e, h))
  keeps_end i (open_if ∷ os) e = on_stop
  keeps_end i (open_else ∷ os) e = on_ok (λ ts h. (i, row_over (at_an_end e), e, h))

  keeps : (c : Scope) (i : ℕ) (s : Statement) (os os' : List Open) → said rs i ≡ s → StatementFits c s → after s os ≡ ok os' → Keeps i s os os'
  unfolding after
  keeps c i (does o) os os' e f a = subst (Keeps i (does o) os) (sym (on_at (op_says o os) a).0) (keeps_plain i os o e)
  keeps c i (for l) os os' e f a = subst (Keeps i (for l) os) (sym (on_at (opened_says (open_for l.passes ∷ os)) a).0) (keeps_loop i os l e)
  keeps c i (if p) os os' e f a = subst (Keeps i (if p) os) (sym (on_at (opened_says (open_if ∷ os)) a).0) (keeps_branch i os p e)
  keeps c i else os os' e f a = on_at (keeps_else i os e) a
  keeps c i end os os' e f a = on_at (keeps_end i os e) a
  keeps c i none os os' e f a = absurd f

  chain : (c : Scope) (i : ℕ) {os : List Open} {rest : List Rec} → Nested c os rest → drop i rs ≡ rest → i ≤ length rs → Chain (blocks i rest) os i
  unfolding blocks Chain Keeps
  chain c i over e h =
      let past : i ≡ length rs = omega (arith, length-drop i rs, ap length e) in
      subst (λ n. IsBlock rs (stops i) i n) past (row_over (past_the_last (omega arith)))
  chain c i (then {os} {os'} {r} {rs = rest} fits a more) e h =
      let there : i < length rs = omega (arith, length-drop i rs, ap length e) in
      let both : get_or rs i nothing ∷ drop (suc i) rs ≡ r ∷ rest = sym (drop-cons rs i nothing there) ∙ e in
      let here : get_or rs i nothing ≡ r = cc in
      let further : drop (suc i) rs ≡ rest = cc in
      keeps c i (statement r) os os' (ap statement here) fits a (blocks (suc i) rest) (chain c (suc i) more further (omega arith))

  first_block : {i : ℕ} (ts : List Block) (os : List Open) → Chain ts os i → (j : ℕ) × IsBlock rs (get_or ts 0 (stops i)) i j
  unfolding Chain
  first_block [] os h = absurd h
  first_block (t ∷ ts) [] h = (length rs, h)
  first_block (t ∷ ts) (open_for p ∷ os) h = (h.0, h.1)
  first_block (t ∷ ts) (open_if ∷ os) h = (h.0, h.1)
  first_block (t ∷ ts) (open_else ∷ os) h = (h.0, h.1)

  whole_block : (ts : List Block) → Chain ts [] 0 → IsBlock rs (get_or ts 0 (stops 0)) 0 (length rs)
  unfolding Chain
  whole_block [] h = absurd h
  whole_block (t ∷ ts) h = h

-- ---- the whole program

pub tree_block : (c : Scope) (rs : List Rec) → Nested c [] rs → ReadBlock c rs (tree rs) [] 0 (length rs)
unfolding tree tree_at
tree_block c rs n = record { is = whole_block rs (blocks 0 rs) (chain rs c 0 n refl (omega arith)); reads = n }

one_block : (c : Scope) (rs : List Rec) → Nested c [] rs → OneBlock rs (tree rs)
one_block c rs n = record { is = (tree_block c rs n).is; only = λ u j h. same_block h (tree_block c rs n) }

pub one_tree : OneTree
one_tree file K e =
    let r = on_at (file_reads file) e in
    record { array_program = one_block _ _ r.array_program; stream_program = one_block _ _ r.stream_program }

-- ---- from a record on

stop_is : {rs : List Rec} {t : Block} {i j : ℕ} → IsBlock rs t i j → stop_of t ≡ j
unfolding stop_of
stop_is (row_over s) = refl
stop_is (row_plain x r) = stop_is r
stop_is (row_for x b y r) = stop_is r
stop_is (row_if x a y b z r) = stop_is r

pub past : (rs : List Rec) (i : ℕ) → length rs ≤ i → tree_at rs i ≡ stops i
unfolding tree_at blocks
past rs i h = ap (λ rest. get_or (blocks i rest) 0 (stops i)) (drop_of_length-le rs h)

-- the tree there is the block there
pub block_at : (rs : List Rec) (i : ℕ) (b : Begins rs i) → i ≤ length rs → ReadBlock b.scope rs (tree_at rs i) b.opens i (stop_of (tree_at rs i))
unfolding tree_at
block_at rs i b h =
    let (j, is) = first_block rs (blocks i (drop i rs)) b.opens (chain rs b.scope i b.reads refl h) in
    record { is = subst (λ j. IsBlock rs (tree_at rs i) i j) (sym (stop_is is)) is; reads = b.reads }

pub is_tree : {c : Scope} {rs : List Rec} {t : Block} {os : List Open} {i j : ℕ} → i ≤ length rs → ReadBlock c rs t os i j → (t ≡ tree_at rs i) × (j ≡ stop_of (tree_at rs i))
is_tree {c} {rs} {os} {i} h b = same_block b.is (block_at rs i (record { scope = c; opens = os; reads = b.reads }) h)

-- ---- what the tree at a record begins with: the trees at the records after it

module _ {c : Scope} {rs : List Rec} {os : List Open} {i j : ℕ} {o : Op} {t : Block} (f : PlainFront c rs os i j o t) (h : i < length rs) where
  pub plain_tree : t ≡ plain i o (tree_at rs (suc i))
  plain_tree = f.is ∙ ap (plain i o) (is_tree h f.more).0

module _ {c : Scope} {rs : List Rec} {os : List Open} {i j : ℕ} {l : Loop} {t : Block} (f : LoopFront c rs os i j l t) where
  -- the body stops inside the program
  pub loop_inside : (i < f.end_at) × (f.end_at < length rs)
  unfolding kind
  loop_inside = (block_low f.inner.is, said_there rs f.end_at f.ends (omega arith))

  pub body_stops : f.end_at ≡ stop_of (tree_at rs (suc i))
  body_stops = (is_tree (omega (arith, loop_inside.0, loop_inside.1)) f.inner).1

  pub loop_tree : t ≡ loop i l (tree_at rs (suc i)) (tree_at rs (suc f.end_at))
  loop_tree =
      let (e, at) = is_tree (omega (arith, loop_inside.0, loop_inside.1)) f.inner in
      f.is ∙ (λ x. loop i l (e x) ((is_tree loop_inside.1 f.more).0 x))

module _ {c : Scope} {rs : List Rec} {os : List Open} {i j p : ℕ} {t : Block} (f : BranchFront c rs os i j p t) where
  pub branch_inside : (i < f.else_at) × (f.else_at < f.end_at) × (f.end_at < length rs)
  unfolding kind
  branch_inside = (block_low f.inner.is, block_low f.other.is, said_there rs f.end_at f.ends (omega arith))

  pub first_stops : f.else_at ≡ stop_of (tree_at rs (suc i))
  first_stops = (is_tree (omega (arith, branch_inside.0, branch_inside.1, branch_inside.2)) f.inner).1

  pub second_stops : f.end_at ≡ stop_of (tree_at rs (suc f.else_at))
  second_stops = (is_tree (omega (arith, branch_inside.1, branch_inside.2)) f.other).1

  pub branch_tree : t ≡ branch i p (tree_at rs (suc i)) (tree_at rs (suc f.else_at)) (tree_at rs (suc f.end_at))
  branch_tree =
      let (e, at) = is_tree (omega (arith, branch_inside.0, branch_inside.1, branch_inside.2)) f.inner in
      let (e₁, at₁) = is_tree (omega (arith, branch_inside.1, branch_inside.2)) f.other in
      f.is ∙ (λ x. branch i p (e x) (e₁ x) ((is_tree branch_inside.2 f.more).0 x))
