-- Where the machine stands, from one record to the next: after a statement, in a loop's body, in a block of an if; and what the statement at a
-- record comes to.
use Prim.Native.Nat.{ℕ, suc, ◌+◌, ◌-◌, ◌<◌, ◌≤◌}
use mathlib.Core.Path.{◌≡◌, refl, sym, ap, subst, ◌∙◌}
use mathlib.Core.Bool.{Bool, cond, true, false}
use mathlib.Core.List.{List, ◌∷◌}
use native.Mathlib.Omega.{arith}
use lib.Dec.{eqb}
use lib.ListN.{length}
use Rattle.numbers.specs.Result.{Result, ok, stop, ◌>>=◌, because}
use Rattle.forms.specs.Form.{Loop}
use Rattle.kernel.specs.File.{Rec, Op, does, for, if}
use Rattle.kernel.specs.Blocks.{said}
use Rattle.kernel.specs.Reading.{open_for, open_if, open_else, open_loops}
use Rattle.kernel.specs.Machine as Machine
use Rattle.kernel.specs.Machine.{Layout, State, Stuck, stuck, get, step, choose, in_pass, repeat, run}
use Rattle.kernel.specs.Guarantees.{LoopFits, InBlock}
use Rattle.kernel.specs.Trees.{tree_at, stop_of, after_first}
use Rattle.kernel.proofs.Fronts.{ReadBlock, LoopFront, BranchFront, front_plain, front_loop, front_branch}
use Rattle.kernel.proofs.Trees.{block_at, first_stops}
use Rattle.run_loops.specs.declared.Counters.{Counters}
use Rattle.run_ops.specs.Statements.{Performs}
use Rattle.run_ends.proofs.After.{in_if_block}
use Rattle.run_blocks.specs.View.{Stands, head, taken}
use Rattle.run_blocks.proofs.Runs.{Going, head_plain, head_loop, head_branch}

module _ {rs : List Rec} {i : ℕ} {a : Counters} (st : Stands rs i a) (here : i < length rs) where
  whole : ReadBlock st.begins.scope rs (tree_at rs i) st.begins.opens i (stop_of (tree_at rs i))
  whole = block_at rs i st.begins (omega arith)

  pub next_stands : {e : Layout} {c : Machine.Counters} → Going rs i st.begins e c → Stands rs (after_first (tree_at rs i)) a
  next_stands g = record {
    begins = record { scope = st.begins.scope; opens = st.begins.opens; reads = g.more };
    few_registers = st.few_registers;
    few_arrays = st.few_arrays;
    left_is = st.left_is;
    level_is = st.level_is;
  }

  -- ---- one that holds no block

  module _ {o : Op} (z : said rs i ≡ does o) where
    pub performs : Performs o
    performs = record { scope = st.begins.scope; fits = (front_plain whole z).fits; few_registers = st.few_registers; few_arrays = st.few_arrays }

    pub plain_runs : (e : Layout) (c : Machine.Counters) (s : State) → head e (tree_at rs i) c s ≡ step e i o c s
    plain_runs e c s = head_plain rs i st.begins here e c s z

  -- ---- a loop

  module _ {l : Loop} (z : said rs i ≡ for l) where
    the_loop : LoopFront st.begins.scope rs st.begins.opens i (stop_of (tree_at rs i)) l (tree_at rs i)
    the_loop = front_loop whole z

    pub loop_fits : LoopFits l
    loop_fits = the_loop.fits

    pub loop_deep : 1 ≤ a.left
    loop_deep = omega (arith, st.left_is, the_loop.room.depth)

    pub loop_level : a.level < 4
    unfolding open_loops
    loop_level = omega (arith, st.level_is, the_loop.room.loops)

    pub body_stands : (b : Counters) → b.left ≡ a.left - 1 → b.level ≡ a.level + 1 → Stands rs (i + 1) b
    unfolding open_loops
    body_stands b u v =
        let k : suc i ≡ i + 1 = omega arith in
        subst (λ n. Stands rs n b) k (record {
          begins = record { scope = st.begins.scope; opens = open_for l.passes ∷ st.begins.opens; reads = the_loop.inner.reads };
          few_registers = st.few_registers;
          few_arrays = st.few_arrays;
          left_is = omega (arith, st.left_is, u, loop_deep);
          level_is = omega (arith, st.level_is, v);
        })

    pub loop_runs : (e : Layout) (c : Machine.Counters) (s : State) → head e (tree_at rs i) c s ≡ repeat (λ m s. run e (tree_at rs (i + 1)) (in_pass l c m) s) l.passes 0 s
    loop_runs e c s = head_loop rs i st.begins here e c s z

  -- ---- an if

  module _ {p : ℕ} (z : said rs i ≡ if p) where
    the_if : BranchFront st.begins.scope rs st.begins.opens i (stop_of (tree_at rs i)) p (tree_at rs i)
    the_if = front_branch whole z

    pub if_register : p < 48
    if_register = omega (arith, the_if.fits, st.few_registers)

    pub if_deep : 1 ≤ a.left
    if_deep = omega (arith, st.left_is, the_if.room.depth)

    pub if_block : InBlock rs (i + 1)
    if_block = in_if_block rs i st.begins here z

    abbrev pub OneIn : Counters → Type 0
    OneIn b = (b.left ≡ a.left - 1) × (b.level ≡ a.level)

    first_stands : (b : Counters) → OneIn b → Stands rs (i + 1) b
    unfolding open_loops
    first_stands b (u, v) =
        let k : suc i ≡ i + 1 = omega arith in
        subst (λ n. Stands rs n b) k (record {
          begins = record { scope = st.begins.scope; opens = open_if ∷ st.begins.opens; reads = the_if.inner.reads };
          few_registers = st.few_registers;
          few_arrays = st.few_arrays;
          left_is = omega (arith, st.left_is, u, if_deep);
          level_is = omega (arith, st.level_is, v);
        })

    second_stands : (b : Counters) → OneIn b → Stands rs (suc (stop_of (tree_at rs (i + 1)))) b
    unfolding open_loops
    second_stands b (u, v) =
        let k : suc i ≡ i + 1 = omega arith in
        let m : suc the_if.else_at ≡ suc (stop_of (tree_at rs (i + 1))) = ap suc (first_stops the_if ∙ ap (λ n. stop_of (tree_at rs n)) k) in
        subst (λ n. Stands rs n b) m (record {
          begins = record { scope = st.begins.scope; opens = open_else ∷ st.begins.opens; reads = the_if.other.reads };
          few_registers = st.few_registers;
          few_arrays = st.few_arrays;
          left_is = omega (arith, st.left_is, u, if_deep);
          level_is = omega (arith, st.level_is, v);
        })

    -- ---- by what the register holds

    pub if_stands : (w : ℕ) (b : Counters) → OneIn b → Stands rs (taken rs i w) b
    unfolding taken
    if_stands w b o = by (eqb w 0)
      where
        by : (t : Bool) → Stands rs (cond t (suc (stop_of (tree_at rs (i + 1)))) (i + 1)) b
        by true = second_stands b o
        by false = first_stands b o

    module _ (e : Layout) (c : Machine.Counters) (s : State) where
      fork : ℕ → Result Stuck State
      fork w = cond {A = State → Result Stuck State} (eqb w 0) (λ s. run e (tree_at rs (suc (stop_of (tree_at rs (i + 1))))) c s) (λ s. run e (tree_at rs (i + 1)) c s) s

      forks : head e (tree_at rs i) c s ≡ (because (λ reason. stuck reason i s) (get p s) >>= fork)
      unfolding choose fork
      forks = head_branch rs i st.begins here e c s z

      pub if_sticks : {k : ℕ} → get p s ≡ stop k → stop (stuck k i s) ≡ head e (tree_at rs i) c s
      unfolding because ◌>>=◌
      if_sticks h = sym (forks ∙ ap (λ g. because (λ reason. stuck reason i s) g >>= fork) h)

      pub if_runs : {w : ℕ} → get p s ≡ ok w → run e (tree_at rs (taken rs i w)) c s ≡ head e (tree_at rs i) c s
      unfolding because ◌>>=◌ fork taken
      if_runs {w} h = by (eqb w 0) ∙ sym (forks ∙ ap (λ g. because (λ reason. stuck reason i s) g >>= fork) h)
        where
          by : (t : Bool) → run e (tree_at rs (cond t (suc (stop_of (tree_at rs (i + 1)))) (i + 1))) c s
              ≡ cond {A = State → Result Stuck State} t (λ s. run e (tree_at rs (suc (stop_of (tree_at rs (i + 1))))) c s) (λ s. run e (tree_at rs (i + 1)) c s) s
          by true = refl
          by false = refl
