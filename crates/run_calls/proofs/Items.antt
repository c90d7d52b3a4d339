-- No stream gives or takes more items than it has, so the counts that a run answers are at most 8,192. By recursion on the block.
use Prim.Native.Nat.{ℕ, zero, suc, ◌+◌, ◌≤◌, ◌<◌}
use mathlib.Core.Path.{◌≡◌, refl, sym, subst}
use mathlib.Core.Bool.{Bool, true, false, cond}
use mathlib.Core.List.{List, [], ◌∷◌, map}
use native.Mathlib.Omega.{arith}
use native.Mathlib.Nat as NatL
use native.Mathlib.Decide.{ℕ_discrete, dec_lt}
use lib.Dec.{eqb}
use lib.IntN.{ℤ, pos}
use lib.ListN
use lib.ListN.{length, get_or}
use lib.Seq.{get_or-set_same, get_or-set_other, set_out}
use borrow.Author.Tests.{ltb-true}
use Rattle.numbers.specs.Result.{Result, ok, stop, ◌>>=◌, because}
use Rattle.numbers.specs.Lists.{sum}
use Rattle.numbers.specs.Words.{inside}
use Rattle.numbers.proofs.Results.{On, on_ok, on_need, on_then, whatever}
use Rattle.kernel.specs.File.{Rec, nothing, on, only, Op, set, copy, work, load, store, read, write}
use Rattle.kernel.specs.Blocks.{Block, stops, plain, loop, branch}
use Rattle.kernel.specs.Machine.{Layout, State, Counters, Stuck, stuck, get, put, place, advance, cell, keep, cell_number, perform, step, choose, in_pass, repeat, run}
use Rattle.kernel.specs.Memory.{moved}

-- ---- what holds of the state that a run leaves, ended or stuck

abbrev Left : (State → Type 0) → Result Stuck State → Type 0
Left P (ok s) = P s
Left P (stop (stuck reason n s)) = P s

-- a record, so that its parts can be inferred
pub record Leaves (P : State → Type 0) (m : Result Stuck State) : Type 0 where
  pub leaves : Left P m

leaves_then : {P : State → Type 0} {m : Result Stuck State} (f : State → Result Stuck State) → Leaves P m → ((s : State) → P s → Leaves P (f s)) → Leaves P (m >>= f)
unfolding ◌>>=◌
leaves_then {m = ok s} f h k = k s h.leaves
leaves_then {m = stop (stuck reason n s)} f h k = record { leaves = h.leaves }

leaves_because : {P : State → Type 0} (n : ℕ) (s : State) {m : Result ℕ State} → P s → On P m → Leaves P (because (λ reason. stuck reason n s) m)
unfolding because
leaves_because n s {m = ok t} p h = record { leaves = h.on }
leaves_because n s {m = stop e} p h = record { leaves = p }

-- ---- each place is at most the stream's count

pub record Placed (e : Layout) (s : State) : Type 0 where
  pub most : (q : ℕ) → get_or s.places q 0 ≤ e.size q

set_most : (l : List ℕ) (q v : ℕ) (size : ℕ → ℕ) → ((r : ℕ) → get_or l r 0 ≤ size r) → v ≤ size q → (r : ℕ) → get_or (ListN.set l q v) r 0 ≤ size r
set_most l q v size h m r = by (ℕ_discrete r q) (dec_lt q (length l))
  where
    by : Dec (r ≡ q) → Dec (q < length l) → get_or (ListN.set l q v) r 0 ≤ size r
    by (yes e) (yes b) = subst (λ r. get_or (ListN.set l q v) r 0 ≤ size r) (sym e) (subst (λ n. n ≤ size q) (sym (get_or-set_same l q v 0 b)) m)
    by (yes e) (no b) = subst (λ l. get_or l r 0 ≤ size r) (sym (set_out l q v (omega arith))) (h r)
    by (no e) b = subst (λ n. n ≤ size r) (sym (get_or-set_other l q r v 0 e)) (h r)

module _ (e : Layout) where
  -- a cell that there is
  inside_most : (reason n i : ℕ) → On (λ j. i < n) (cell_number reason n (pos i))
  unfolding cell_number inside
  inside_most reason n i = on_then _ (on_need _ _) λ t h. on_ok (ltb-true i n h)

  advanced : (q : ℕ) (s t : State) → t.places ≡ s.places → Placed e s → place q s < e.size q → Placed e (advance q t)
  unfolding advance place
  advanced q s t f p h = record { most = set_most t.places q (get_or t.places q 0 + 1) e.size (λ r. subst (λ l. get_or l r 0 ≤ e.size r) (sym f) (p.most r)) (subst (λ l. get_or l q 0 + 1 ≤ e.size q) (sym f) (omega arith)) }

  perform_placed : (cs : List ℤ) (o : Op) (s : State) → Placed e s → On (Placed e) (perform e cs o s)
  unfolding perform put keep
  perform_placed cs (set p f) s h = on_ok (record { most = h.most })
  perform_placed cs (copy p q) s h = on_then _ whatever λ w t. on_ok (record { most = h.most })
  perform_placed cs (work o p q k) s h = on_then _ whatever λ a t. on_then _ whatever λ b t. on_then _ whatever λ w t. on_ok (record { most = h.most })
  perform_placed cs (load p q f) s h = on_then _ whatever λ i t. on_ok (record { most = h.most })
  perform_placed cs (store p q f) s h = on_then _ whatever λ w t. on_then _ whatever λ i t. on_ok (record { most = h.most })
  perform_placed cs (read p q) s h = on_then _ (inside_most 34 (e.size q) (place q s)) λ i t. on_ok (advanced q s (put p (cell e q i) s) refl h t)
  perform_placed cs (write p q) s h = on_then _ whatever λ w t. on_then _ (inside_most 35 (e.size q) (place q s)) λ i t. on_ok (advanced q s (keep e q i w s) refl h t)

  repeat_placed : (f : ℕ → State → Result Stuck State) → ((m : ℕ) (s : State) → Placed e s → Leaves (Placed e) (f m s)) → (n m : ℕ) (s : State) → Placed e s → Leaves (Placed e) (repeat f n m s)
  unfolding repeat
  repeat_placed f k zero m s h = record { leaves = h }
  repeat_placed f k (suc n) m s h = leaves_then (repeat f n (m + 1)) (k m s h) (λ t p. repeat_placed f k n (m + 1) t p)

  -- by what the register is found to be
  chosen_placed : (n : ℕ) (f g : State → Result Stuck State) → ((s : State) → Placed e s → Leaves (Placed e) (f s)) → ((s : State) → Placed e s → Leaves (Placed e) (g s))
      → (s : State) → Placed e s → (w : Result ℕ ℕ) → Leaves (Placed e) (because (λ reason. stuck reason n s) w >>= λ w. cond (eqb w 0) g f s)
  unfolding because ◌>>=◌
  chosen_placed n f g hf hg s h (stop r) = record { leaves = h }
  chosen_placed n f g hf hg s h (ok w) = by (eqb w 0)
    where
      by : (t : Bool) → Leaves (Placed e) (cond t g f s)
      by true = hg s h
      by false = hf s h

  pub run_placed : (t : Block) (c : Counters) (s : State) → Placed e s → Leaves (Placed e) (run e t c s)
  unfolding run step choose
  run_placed (stops n) c s h = record { leaves = h }
  run_placed (plain n o rest) c s h = leaves_then (λ s. run e rest c s) (leaves_because n s h (perform_placed c.values o s h)) (λ t p. run_placed rest c t p)
  run_placed (loop n l body rest) c s h = leaves_then (λ s. run e rest c s) (repeat_placed (λ m s. run e body (in_pass l c m) s) (λ m s p. run_placed body (in_pass l c m) s p) l.passes 0 s h) (λ t p. run_placed rest c t p)
  run_placed (branch n p then other rest) c s h =
      leaves_then (λ s. run e rest c s) (chosen_placed n (λ s. run e then c s) (λ s. run e other c s) (λ s p. run_placed then c s p) (λ s p. run_placed other c s p) s h (get p s)) (λ t p. run_placed rest c t p)

-- ---- counted over the arrays of a side

module _ (side : ℕ) (size : Rec → ℕ) where
  added : (a : Rec) (v : ℕ) → v ≤ size a → only side (λ _. v) a ≤ only side size a
  unfolding only
  added a v h = by (on side a)
    where
      by : (t : Bool) → cond t v 0 ≤ cond t (size a) 0
      by true = h
      by false = omega arith

  pub moved_most : (n : ℕ) (arrays : List Rec) (s : State) → ((k : ℕ) → get_or s.places (n + k) 0 ≤ size (get_or arrays k nothing)) → moved side n arrays s ≤ sum (map (only side size) arrays)
  unfolding moved sum
  moved_most n [] s h = omega arith
  moved_most n (a ∷ rest) s h =
      let e : n + 0 ≡ n = omega arith in
      NatL.add-le-add (added a (get_or s.places n 0) (subst (λ m. get_or s.places m 0 ≤ size a) e (h 0))) (moved_most (suc n) rest s (λ k. subst (λ m. get_or s.places m 0 ≤ size (get_or rest k nothing)) (further n k) (h (suc k))))
    where
      further : (n k : ℕ) → n + suc k ≡ suc n + k
      further n k = omega arith
