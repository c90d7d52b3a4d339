-- Demand 3: both runs of an accepted file begin tied, go through the whole derivation, and end as it ends.
use mathlib.Core.Path.{◌≡◌, refl, sym, ap, subst, ◌∙◌}
use mathlib.Core.Logic.{◌⊎◌, inl, inr}
use mathlib.Core.Bool.{cond}
use mathlib.Core.List.{List, [], ◌∷◌, map}
use mathlib.Core.Option.{Option, none, some}
use Prim.Native.Nat.{ℕ, zero, suc, ◌+◌, ◌<◌}
use native.Mathlib.Omega.{arith}
use native.Mathlib.Nat.{add-zero}
use lib.ListN.{length, get_or, length-map, length-replicate}
use lib.IntN.{pos, nat_abs}
use Rattle.numbers.specs.Result.{Result}
use Rattle.numbers.proofs.Rows.{replicate_at}
use Rattle.numbers.specs.Lists.{sum, Pairwise}
use Rattle.numbers.specs.Words.{words}
use Rattle.numbers.proofs.Results.{on_at}
use Rattle.forms.specs.Form.{Form, value, constant, none as no_choice, Equal}
use Rattle.forms.proofs.Values.{value_constant}
use Rattle.kernel.specs.File.{Rec, nothing, Kernel, input, output, only, on, length_of, count_of}
use Rattle.kernel.specs.Reading.{array_scope, stream_scope, open_loops}
use Rattle.kernel.specs.Machine.{State, place, Stuck, run, Layout}
use Rattle.kernel.specs.Memory.{total, laid_out, sticks, moved, ran, start, outside, array_ran, stream_ran, layout}
use Rattle.kernel.specs.Ledger.{Held, held, fresh, position, holding}
use Rattle.kernel.specs.Blocks.{said}
use Rattle.kernel.specs.Trees.{tree}
use Rattle.kernel.specs.Derivation.{Place, beginning, loops}
use Rattle.kernel.specs.Rules.{Step, Derived, AllCounted}
use Rattle.kernel.specs.Guarantees.{Reads}
use Rattle.kernel.proofs.Readable.{file_reads}
use Rattle.kernel.proofs.Sayings.{kind, said_past}
use Rattle.kernel.proofs.Trees.{tree_block}
use Rattle.agreement.specs.Agreement.{Agree, Agreement, Safety}
use Rattle.agreement.proofs.Walks.{step_leads, Going, at_end, Path, stays, steps, path, exactness}
use Rattle.agreement.proofs.Sim.{Sim, Related, both_end, both_stick}
use Rattle.agreement.proofs.Turns.{map_at}
use Rattle.agreement.proofs.Passes.{Chosen, one_value_here}
use Rattle.agreement.proofs.Sound.{Long, only_closing, closes}
use Rattle.agreement.proofs.Laying.{tied, back_zeros}

module _ (K : Kernel) (reads : Reads K) (m : List ℕ) where
  -- the two worlds
  abbrev arrays : Layout
  arrays = layout length_of K m

  abbrev streams : Layout
  streams = layout count_of K (laid_out K m)

  -- ---- at the start

  fresh_position : (q : ℕ) → q < length K.arrays → position q (fresh K) ≡ constant (pos 0)
  unfolding position fresh
  fresh_position q h = map_at (λ a. constant (pos 0)) K.arrays q nothing (constant (pos 0)) h

  long_fresh : Long K (fresh K)
  unfolding fresh
  long_fresh = record { positions = length-map K.arrays _; buffers = length-replicate K.buffers none }

  begun : Sim K arrays (fresh K) outside.values (start length_of K) (start count_of K)
  unfolding start place
  begun = record {
    sized = record {
      array_registers = length-replicate {A = Option ℕ} 48 none;
      stream_registers = length-replicate {A = Option ℕ} 48 none;
      places = length-replicate {A = ℕ} 8 0;
      items = length-replicate {A = ℕ} (total output count_of K) 0;
      positions = long_fresh.positions;
      buffers = long_fresh.buffers;
    };
    registers = λ p h. refl;
    places = λ q h. ap (λ f. value f outside.values) (fresh_position q h) ∙ value_constant (pos 0) outside.values ∙ ap pos (sym (replicate_at 8 q 0));
    buffers = λ b q f h. absurd (nothing_held b q f h);
    outputs = sym (back_zeros K reads (total output count_of K));
  }
    where
      nothing_held : (b q : ℕ) (f : Form) → holding b (fresh K) ≡ some (held q f) → ⊥
      nothing_held b q f h = unfold holding fresh in clash (sym (replicate_at K.buffers b none) ∙ h)
        where
          clash : {h : Held} → none ≡ some h → ⊥
          clash e = let z : ◌≡◌ {A = ℕ} 0 1 = cc in omega arith

  nothing_open : Chosen [] outside
  unfolding loops
  nothing_open = record { values = []; choice = no_choice; zeros = 4; counters_are = refl; four = refl; level_is = refl }

  -- ---- where the derivation ends

  no_step : {w d : Place} → w.array ≡ length K.array_program → w.stream ≡ length K.stream_program → Step K w d → ⊥
  unfolding kind
  no_step {w} p q s =
      step_leads (Going (λ d. ⊥)) (only_closing (tied K reads m) reads (Going (λ d. ⊥)) w (λ l. other array_none (omega arith)) (λ l. other (ap kind (said_past K.stream_program w.stream (omega arith))) (omega arith))
      (λ e. absurd (other (ap kind (sym e) ∙ array_none) (omega arith))) (λ e. absurd (other (ap kind (sym e) ∙ array_none) (omega arith)))) s
    where
      array_none : kind (said K.array_program w.array) ≡ 5
      array_none = ap kind (said_past K.array_program w.array (omega arith))

      other : {n : ℕ} → n ≡ 5 → n < 5 → ⊥
      other e l = omega arith

  same_end : {n : ℕ} {w z : Place} → Path K n w z → w.array ≡ length K.array_program → w.stream ≡ length K.stream_program → w ≡ z
  same_end stays p q = refl
  same_end (steps s more) p q = absurd (no_step p q s)

  -- the runs of both programs, tied by the ledger that the derivation ends with
  whole : (d : Derived K)
      → Related K arrays d.last.ledger outside.values (run arrays (tree K.array_program) outside (start length_of K)) (run streams (tree K.stream_program) outside (start count_of K))
  unfolding beginning loops open_loops
  whole d =
      let (n, p) = path d.follows in
      let c = closes (tied K reads m) reads n n (beginning K) d.last (omega arith) p d.finished (tree K.array_program) (tree K.stream_program) (length K.array_program) (length K.stream_program) (record {
        array_open = [];
        stream_open = [];
        array_block = tree_block (array_scope K) K.array_program reads.array_program;
        stream_block = tree_block (stream_scope K) K.stream_program reads.stream_program;
        levels = refl;
        long = long_fresh;
      }) in
      subst (λ w. Related K arrays w.ledger outside.values (run arrays (tree K.array_program) outside (start length_of K)) (run streams (tree K.stream_program) outside (start count_of K)))
      (same_end c.path c.array_at c.stream_at) (c.related outside nothing_open (start length_of K) (start count_of K) begun)

  -- ---- counts

  only_same : (side : ℕ) (n k : Rec → ℕ) (a : Rec) → n a ≡ k a → only side n a ≡ only side k a
  unfolding only
  only_same side n k a e = ap (λ x. cond (on side a) x 0) e

  moved_total : (side n : ℕ) (rs : List Rec) (y : State) → ((q : ℕ) → q < length rs → get_or y.places (n + q) 0 ≡ count_of (get_or rs q nothing)) → moved side n rs y ≡ sum (map (only side count_of) rs)
  unfolding moved sum
  moved_total side n [] y h = refl
  moved_total side n (a ∷ rs) y h =
      let first : only side (λ _. get_or y.places n 0) a ≡ only side count_of a = only_same side (λ _. get_or y.places n 0) count_of a (ap (λ k. get_or y.places k 0) (sym (add-zero n)) ∙ h 0 (omega arith)) in
      let rest : moved side (suc n) rs y ≡ sum (map (only side count_of) rs) = moved_total side (suc n) rs y (λ q l. ap (λ k. get_or y.places k 0) (move n q) ∙ h (suc q) (omega arith)) in
      omega arith
    where
      move : (n q : ℕ) → suc n + q ≡ n + suc q
      move n q = omega arith

  -- a position that is its stream's count has its value, with no loop around
  count_there : {rs : List Rec} {fs : List Form} → Pairwise (λ a f. Equal [] (constant (pos (count_of a))) f) rs fs → (q : ℕ) → q < length rs
      → value (get_or fs q (constant (pos 0))) outside.values ≡ pos (count_of (get_or rs q nothing))
  unfolding loops
  count_there Pairwise.none q h = absurd (nowhere h)
    where
      nowhere : {q : ℕ} → q < 0 → ⊥
      nowhere h = omega arith
  count_there (Pairwise.more {x} {y} e p) zero h = sym ((one_value_here nothing_open).equal_forms (constant (pos (count_of x))) y e) ∙ value_constant (pos (count_of x)) outside.values
  count_there (Pairwise.more e p) (suc q) h = count_there p q (omega arith)

  all_moved : (side : ℕ) (z : Place) {x y : State} → AllCounted K z → Sim K arrays z.ledger outside.values x y → moved side 0 K.arrays y ≡ total side count_of K
  unfolding total position place
  all_moved side z {x} {y} counted s = moved_total side 0 K.arrays y λ q h.
      ap (λ k. get_or y.places k 0) (none_before q) ∙ ap nat_abs (sym (s.places q h) ∙ count_there counted q h)
    where
      none_before : (q : ℕ) → 0 + q ≡ q
      none_before q = omega arith

  -- ---- what a user sees

  agree : (z : Place) {r r' : Result Stuck State} → AllCounted K z → Related K arrays z.ledger outside.values r r' → Agree K (ran K r) (ran K r')
  unfolding ran
  agree z counted (both_end {x} {y} s) = record {
    end_alike = (λ e. refl, λ e. refl);
    all_read = λ e. all_moved input z counted s;
    all_written = λ e. all_moved output z counted s;
    array_sticks = λ r n e. absurd (let z : ◌≡◌ {A = ℕ} 0 1 = cc in omega arith);
    stream_sticks = λ r n e. absurd (let z : ◌≡◌ {A = ℕ} 0 1 = cc in omega arith);
    outputs = sym s.outputs;
  }
  agree z counted (both_stick {x} {y} {r} {i} {j} why out) = record {
    end_alike = (λ e. absurd (let z : ◌≡◌ {A = ℕ} 0 1 = cc in omega arith), λ e. absurd (let z : ◌≡◌ {A = ℕ} 0 1 = cc in omega arith));
    all_read = λ e. absurd (let z : ◌≡◌ {A = ℕ} 0 1 = cc in omega arith);
    all_written = λ e. absurd (let z : ◌≡◌ {A = ℕ} 0 1 = cc in omega arith);
    array_sticks = λ reason n e. let same : r ≡ reason = cc in (subst (λ r. (r ≡ 31) ⊎ (r ≡ 32)) same why, (j, ap (λ r. sticks r j) same));
    stream_sticks = λ reason n e. let same : r ≡ reason = cc in (subst (λ r. (r ≡ 31) ⊎ (r ≡ 32)) same why, (i, ap (λ r. sticks r i) same));
    outputs = sym out;
  }

  pub derived_agree : Derived K → Agree K (array_ran K m) (stream_ran K (laid_out K m))
  unfolding array_ran stream_ran
  derived_agree d = agree d.last (at_end d.finished).counted (whole d)

pub agreement : Agreement
agreement file memory K e h size = derived_agree K (on_at (file_reads file) e) (words memory) ((exactness file K e).0 h)

-- ---- what follows from it

pub safety : Safety
safety file memory K e h size =
    let a = agreement file memory K e h size in
    record {
      inside = λ n z. neither (a.array_sticks 33 n z).0 (omega arith);
      not_dry = λ n z. neither (a.stream_sticks 34 n z).0 (omega arith);
      not_over = λ n z. neither (a.stream_sticks 35 n z).0 (omega arith);
    }
  where
    neither : {r : ℕ} → (r ≡ 31) ⊎ (r ≡ 32) → 32 < r → ⊥
    neither (inl e) l = omega arith
    neither (inr e) l = omega arith
