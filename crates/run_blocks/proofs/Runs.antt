-- How the run of a block goes on: its first statement, then the tree after it; a loop pass by pass; an if by its register.
use Rattle.std.specs.Prelude.{Result, Ok, Err}
use Rattle.std.specs.Result.{IsErrAnd}
use Prim.Native.Nat.{ℕ, suc, ◌+◌, ◌-◌, ◌≤◌, ◌<◌}
use mathlib.Core.Path.{◌≡◌, refl, sym, ap, subst, ◌∙◌}
use mathlib.Core.List.{List}
use native.Mathlib.Omega.{arith}
use native.Mathlib.Decide.{dec_lt}
use native.Mathlib.Nat.{add-zero}
use lib.ListN.{length, get_or, drop, length-drop}
use lib.Seq.{get_or-drop}
use Rattle.numbers.specs.Result as Answer
use Rattle.numbers.specs.Result.{ok, stop, ◌>>=◌}
use Rattle.forms.specs.Form.{Loop}
use Rattle.kernel.specs.File as File
use Rattle.kernel.specs.File.{Rec, nothing, Op, does, for, if, none}
use Rattle.kernel.specs.Blocks.{Block, stops, said, StopsAt, at_an_else, at_an_end, past_the_last}
use Rattle.kernel.specs.Trees.{tree_at, stop_of, after_first}
use Rattle.kernel.specs.Machine as Machine
use Rattle.kernel.specs.Machine.{Layout, State, Counters, stuck, step, choose, in_pass, repeat, run}
use Rattle.kernel.specs.Guarantees.{StatementFits, Nested, Begins}
use Rattle.kernel.proofs.Sayings.{fits_at, said_there, kind}
use Rattle.kernel.proofs.Fronts.{ReadBlock, front_plain, front_loop, front_branch, front_stop}
use Rattle.kernel.proofs.Trees.{past, block_at, plain_tree, loop_inside, body_stops, loop_tree, branch_inside, first_stops, second_stops, branch_tree}
use Rattle.parts.specs.declared.statements.Statement.{Statement}
use Rattle.parts.specs.declared.statements.Statement.TheVariants.{Does, For, If, Else, End}
use Rattle.parts.specs.Statements.{statement}
use Rattle.kernel.specs.declared.refusals.Reason.{Reason}
use Rattle.kernel.specs.Named.{reason}
use Rattle.run_ops.specs.States.{worked, stopped}
use Rattle.run_blocks.specs.declared.Stuck.{Stuck}
use Rattle.run_blocks.specs.View.{placed, ran, head}

-- ---- a block, at its next statement

-- what the run goes on to from record i, with the blocks that are open there
pub record Going (rs : List Rec) (i : ℕ) (b : Begins rs i) (e : Layout) (c : Counters) : Type 0 where
  pub more : Nested b.scope b.opens (drop (after_first (tree_at rs i)) rs)
  pub later : i < after_first (tree_at rs i)
  pub inside : after_first (tree_at rs i) ≤ length rs
  pub runs : (s : State) → run e (tree_at rs i) c s ≡ (head e (tree_at rs i) c s >>= λ s. run e (tree_at rs (after_first (tree_at rs i))) c s)

module _ (rs : List Rec) (i : ℕ) (b : Begins rs i) (h : i < length rs) where
  here : ReadBlock b.scope rs (tree_at rs i) b.opens i (stop_of (tree_at rs i))
  here = block_at rs i b (omega arith)

  module _ (e : Layout) (c : Counters) where
    going_by : (t : Block) (n : ℕ) → tree_at rs i ≡ t → after_first t ≡ n → Nested b.scope b.opens (drop n rs) → i < n → n ≤ length rs
        → ((s : State) → run e t c s ≡ (head e t c s >>= λ s. run e (tree_at rs n) c s)) → Going rs i b e c
    going_by t n q k more l m r =
        let to : after_first (tree_at rs i) ≡ n = ap after_first q ∙ k in
        record {
          more = subst (λ n. Nested b.scope b.opens (drop n rs)) (sym to) more;
          later = omega (arith, to);
          inside = omega (arith, to);
          runs = λ s. ap (λ t. run e t c s) q ∙ r s ∙ (λ x. head e (sym q x) c s >>= λ s. run e (tree_at rs (sym to x)) c s);
        }

    -- a statement that opens or holds no block's end
    pub going : (s : Statement) → said rs i ≡ statement s → (s ≡ Else → ⊥) → (s ≡ End → ⊥) → Going rs i b e c
    unfolding statement after_first head run
    going (Does o) z else end = let f = front_plain here z in going_by _ (suc i) (plain_tree f h) refl f.more.reads (omega arith) (omega arith) (λ s. refl)
    going (For l) z else end = let f = front_loop here z in going_by _ (suc f.end_at) (loop_tree f) (ap suc (sym (body_stops f))) f.more.reads (omega (arith, (loop_inside f).0)) (loop_inside f).1 (λ s. refl)
    going (If p) z else end = let f = front_branch here z in going_by _ (suc f.end_at) (branch_tree f) (ap suc (sym (second_stops f))) f.more.reads (omega (arith, (branch_inside f).0, (branch_inside f).1)) (branch_inside f).2 (λ s. refl)
    going Else z else end = absurd (else refl)
    going End z else end = absurd (end refl)

-- ---- a block, at its end

module _ (rs : List Rec) (i : ℕ) (b : Begins rs i) where
  module _ (h : StopsAt rs i) where
    stop_tree : tree_at rs i ≡ stops i
    unfolding kind
    stop_tree = by h
      where
        by : StopsAt rs i → tree_at rs i ≡ stops i
        by (past_the_last l) = past rs i l
        by (at_an_else z) = (front_stop (block_at rs i b (omega (arith, said_there rs i z (omega arith)))) h).0
        by (at_an_end z) = (front_stop (block_at rs i b (omega (arith, said_there rs i z (omega arith)))) h).0

    pub run_stops : (e : Layout) (c : Counters) (s : State) → ok s ≡ run e (tree_at rs i) c s
    unfolding run
    run_stops e c s = sym (ap (λ t. run e t c s) stop_tree)

    pub head_stops : (e : Layout) (c : Counters) (s : State) → ok s ≡ head e (tree_at rs i) c s
    unfolding head
    head_stops e c s = sym (ap (λ t. head e t c s) stop_tree)

  -- where nothing is said there is no record
  pub nothing_said : said rs i ≡ none → StopsAt rs i
  nothing_said z = by (dec_lt i (length rs))
    where
      by : Dec (i < length rs) → StopsAt rs i
      by (yes h) =
          let f = fits_at b.reads 0 (simp length-drop (omega arith)) in
          let same : get_or (drop i rs) 0 nothing ≡ get_or rs i nothing = get_or-drop i rs 0 nothing ∙ ap (λ n. get_or rs n nothing) (add-zero i) in
          absurd (subst (StatementFits b.scope) (ap File.statement same ∙ z) f)
      by (no h) = past_the_last (omega arith)

-- ---- what an answer says of the whole

module _ (s : State) (k : State → Answer.Result Machine.Stuck State) (first whole : Answer.Result Machine.Stuck State) (r : whole ≡ (first >>= k)) where
  -- it goes on from s
  pub went : ran (Ok tt) s ≡ first → whole ≡ k s
  unfolding ran ◌>>=◌
  went e = r ∙ ap (λ x. x >>= k) (sym e)

  -- it is stuck
  pub stuck_there : (why : Stuck) → ran (Err why) s ≡ first → ran (Err why) s ≡ whole
  unfolding ran ◌>>=◌
  stuck_there why e = e ∙ sym (r ∙ ap (λ x. x >>= k) (sym e) ∙ e)

-- what a `?` hands on
pub handed : (r : Result Unit Stuck) (why : Stuck) (s : State) → IsErrAnd r (λ y. y ≡ why) → ran r s ≡ ran (Err why) s
handed (Ok t) why s h = absurd h
handed (Err y) why s h = ap (λ y. ran (Err y) s) h

pub went_on : (s : State) → ran (Ok tt) s ≡ ok s
unfolding ran
went_on s = refl

-- ---- a reason, with the statement that it is of

module _ (n : ℕ) where
  pub placed_ran : (r : Result Unit Reason) (s : State) → ran (placed n r) s ≡ stopped r n s
  unfolding placed ran stopped
  placed_ran (Ok t) s = refl
  placed_ran (Err e) s = refl

  pub placed_ok : {w : ℕ} {g : Answer.Result ℕ ℕ} (r : Result ℕ Reason) → worked r ≡ g → Ok w ≡ placed n r → g ≡ ok w
  unfolding placed worked
  placed_ok {w} (Ok x) e h = let same : w ≡ x = cc in sym e ∙ ap ok (sym same)
  placed_ok (Err y) e h = absurd (cc)

  pub placed_err : (y : Stuck) {g : Answer.Result ℕ ℕ} (r : Result ℕ Reason) (s : State) → worked r ≡ g → Err y ≡ placed n r → (k : ℕ) × (g ≡ stop k) × (ran (Err y) s ≡ stop (stuck k n s))
  unfolding placed worked ran
  placed_err y (Ok x) s e h = absurd (cc)
  placed_err y (Err z) s e h =
      let same : y ≡ record { reason = z; at = n } = cc in
      (reason z, sym e, ap (λ (y : Stuck). stop (stuck (reason y.reason) y.at s)) same)

-- a statement says something
pub speaks : (s : Statement) → kind (statement s) < 5
unfolding kind statement
speaks (Does o) = omega arith
speaks (For l) = omega arith
speaks (If p) = omega arith
speaks Else = omega arith
speaks End = omega arith

-- ---- a loop, pass by pass

module _ (f : ℕ → State → Answer.Result Machine.Stuck State) (count : ℕ) (s₀ : State) where
  -- m passes brought it from s₀ to s
  abbrev pub Passed : ℕ → State → Type 0
  Passed m s = repeat f count 0 s₀ ≡ repeat f (count - m) m s

  pub pass_next : (m : ℕ) (s : State) → m < count → Passed m s → repeat f count 0 s₀ ≡ (f m s >>= λ s. repeat f (count - (m + 1)) (m + 1) s)
  unfolding repeat
  pass_next m s h p =
      let e : count - m ≡ suc (count - (m + 1)) = omega arith in
      p ∙ ap (λ n. repeat f n m s) e

  pub pass_all : (m : ℕ) (s : State) → count ≤ m → Passed m s → ok s ≡ repeat f count 0 s₀
  unfolding repeat
  pass_all m s h p =
      let e : count - m ≡ 0 = omega arith in
      sym (p ∙ ap (λ n. repeat f n m s) e)

-- ---- the statement at a record

module _ (rs : List Rec) (i : ℕ) (b : Begins rs i) (h : i < length rs) (e : Layout) (c : Counters) (s : State) where
  pub head_plain : {o : Op} → said rs i ≡ does o → head e (tree_at rs i) c s ≡ step e i o c s
  unfolding head
  head_plain z = ap (λ t. head e t c s) (plain_tree (front_plain (here rs i b h) z) h)

  pub head_loop : {l : Loop} → said rs i ≡ for l → head e (tree_at rs i) c s ≡ repeat (λ m s. run e (tree_at rs (i + 1)) (in_pass l c m) s) l.passes 0 s
  unfolding head
  head_loop {l} z =
      let k : suc i ≡ i + 1 = omega arith in
      ap (λ t. head e t c s) (loop_tree (front_loop (here rs i b h) z)) ∙ (λ x. repeat (λ m s. run e (tree_at rs (k x)) (in_pass l c m) s) l.passes 0 s)

  pub head_branch : {p : ℕ} → said rs i ≡ if p → head e (tree_at rs i) c s ≡ choose i p (λ s. run e (tree_at rs (i + 1)) c s) (λ s. run e (tree_at rs (suc (stop_of (tree_at rs (i + 1))))) c s) s
  unfolding head
  head_branch {p} z =
      let f = front_branch (here rs i b h) z in
      let k : suc i ≡ i + 1 = omega arith in
      let m : suc f.else_at ≡ suc (stop_of (tree_at rs (i + 1))) = ap suc (first_stops f ∙ ap (λ n. stop_of (tree_at rs n)) k) in
      ap (λ t. head e t c s) (branch_tree f) ∙ (λ x. choose i p (λ s. run e (tree_at rs (k x)) c s) (λ s. run e (tree_at rs (m x)) c s) s)
