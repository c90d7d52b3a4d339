-- One rule, one law: where the derivation takes a rule, both runs' next statements keep the tie, or both stick for one reason.
use mathlib.Core.Path.{◌≡◌, refl, sym, ap, subst, subst₂, ◌∙◌}
use mathlib.Core.Logic.{inl, inr}
use mathlib.Core.Bool.{Bool, true, false, not}
use mathlib.Core.List.{List}
use mathlib.Core.Option.{Option, none, some}
use Prim.Native.Nat.{ℕ, ◌+◌, ◌<◌, ◌≤◌}
use lib.Dec.{eqb}
use lib.ListN.{length, set}
use lib.IntN.{ℤ, pos, nat_abs, ◌+ℤ◌, ◌*ℤ◌}
use lib.Signed.{◌<ℤ◌}
use Rattle.numbers.specs.Result.{Result, ok, stop, ◌>>=◌, need, because}
use Rattle.numbers.specs.Words.{low32, plus, minus, times, over, inside}
use Rattle.numbers.proofs.Order.{pos_lt}
use Rattle.numbers.proofs.Tests.{index_inside}
use Rattle.forms.specs.Form.{Form, value}
use Rattle.forms.proofs.Values.{value_along}
use Rattle.kernel.specs.File.{Kernel, input, output, side_of, length_of, first_of, count_of, step_of, index, array, Operator, add, subtract, multiply, divide, Op, copy, work, load, store, read, write}
use Rattle.kernel.specs.File as File
use Rattle.kernel.specs.Machine.{Layout, State, Counters, word, get, put, place, advance, cell, keep, result, cell_number, perform, Stuck, stuck, step}
use Rattle.kernel.specs.Memory.{total, put_back}
use Rattle.kernel.specs.Ledger.{Held, held, Ledger, position, holding, next_index, passed, hold, read_step, write_step, fill_step, move_step}
use Rattle.kernel.specs.Guarantees.{Inside}
use Rattle.agreement.proofs.Sim.{content, Holding, Sim, Related, both_end, both_stick, sim_put, sim_hold, sim_pass, sim_keep}

-- how the two runs' memories lie: each item of a stream stands for a cell of its array
pub record Tied (K : Kernel) (e e₂ : Layout) : Type 0 where
  pub sizes : (q : ℕ) → e.size q ≡ length_of (array K q)
  pub counts : (q : ℕ) → e₂.size q ≡ count_of (array K q)
  pub items : (q j : ℕ) → q < length K.arrays → j < count_of (array K q) → Inside (length_of (array K q)) (index (array K q) j)
  pub laid : (q j i : ℕ) → q < length K.arrays → side_of (array K q) ≡ input → j < count_of (array K q) → index (array K q) j ≡ pos i → cell e₂ q j ≡ cell e q i
  pub placed : (q j i w : ℕ) (m : List ℕ) → q < length K.arrays → side_of (array K q) ≡ output → j < count_of (array K q) → index (array K q) j ≡ pos i
      → length m ≡ total output count_of K → put_back K (set m (e₂.base q + j) w) ≡ set (put_back K m) (e.base q + i) w

-- ---- tests that pass

-- the number of a cell that is there
cell_there : (reason n i : ℕ) (z : ℤ) → z ≡ pos i → i < n → cell_number reason n z ≡ ok i
unfolding cell_number need ◌>>=◌
cell_there reason n i z e h = ap (λ z. need reason (inside n z) >>= λ _. ok (nat_abs z)) e ∙ ap (λ t. need reason t >>= λ _. ok i) (index_inside n i h)

-- a step that does not stick
done : (e : Layout) (n : ℕ) (o : Op) (c : Counters) (s s' : State) → perform e c.values o s ≡ ok s' → step e n o c s ≡ ok s'
unfolding step because
done e n o c s s' h = ap (because (λ reason. stuck reason n s)) h

-- ---- registers that both runs use

module _ {K : Kernel} {e : Layout} {L : Ledger} {cs : List ℤ} where
  -- a register with the same content on both sides: unset, or a word
  both_use : (x y : State) (i j : ℕ) (u v : Option ℕ) (g g' : ℕ → Result ℕ State) → u ≡ v → x.output ≡ put_back K y.output
      → ((w : ℕ) → Related K e L cs (because (λ r. stuck r i x) (g w)) (because (λ r. stuck r j y) (g' w)))
      → Related K e L cs (because (λ r. stuck r i x) (word u >>= g)) (because (λ r. stuck r j y) (word v >>= g'))
  unfolding word because ◌>>=◌
  both_use x y i j none v g g' z o h = subst (λ v. Related K e L cs (stop (stuck 31 i x)) (because (λ r. stuck r j y) (word v >>= g'))) z (both_stick (inl refl) o)
  both_use x y i j (some w) v g g' z o h = subst (λ v. Related K e L cs (because (λ r. stuck r i x) (g w)) (because (λ r. stuck r j y) (word v >>= g'))) z (h w)

  -- an operation on the same two words: a result, or a zero divisor
  both_reckon : (x y : State) (i j : ℕ) (o : Operator) (a b : ℕ) (g g' : ℕ → Result ℕ State) → x.output ≡ put_back K y.output
      → ((w : ℕ) → Related K e L cs (because (λ r. stuck r i x) (g w)) (because (λ r. stuck r j y) (g' w)))
      → Related K e L cs (because (λ r. stuck r i x) (result o a b >>= g)) (because (λ r. stuck r j y) (result o a b >>= g'))
  unfolding result because ◌>>=◌ need
  both_reckon x y i j add a b g g' out h = h (plus a b)
  both_reckon x y i j subtract a b g g' out h = h (minus a b)
  both_reckon x y i j multiply a b g g' out h = h (times a b)
  both_reckon x y i j divide a b g g' out h = by (not (eqb b 0))
    where
      by : (t : Bool) → Related K e L cs (because (λ r. stuck r i x) (need 32 t >>= (λ _. ok (over a b)) >>= g)) (because (λ r. stuck r j y) (need 32 t >>= (λ _. ok (over a b)) >>= g'))
      by true = h (over a b)
      by false = both_stick (inr refl) out

-- ---- the rules

module _ {K : Kernel} {e e₂ : Layout} (tied : Tied K e e₂) (few : K.registers + K.buffers ≤ 48) (few_arrays : length K.arrays ≤ 8) (c : Counters) {L : Ledger} {x y : State} (s : Sim K e L c.values x y) where
  abbrev Kept : Ledger → Result Stuck State → Result Stuck State → Type 0
  Kept M a b = Related K e M c.values a b

  -- rule 1: a set, a copy, an operation
  pub keep_set : (i j p : ℕ) (f : Form) → p < K.registers → Kept L (step e i (File.set p f) c x) (step e₂ j (File.set p f) c y)
  unfolding step perform because
  keep_set i j p f h = both_end (sim_put few p (low32 (value f c.values)) h s)

  pub keep_copy : (i j p q : ℕ) → p < K.registers → q < K.registers → Kept L (step e i (copy p q) c x) (step e₂ j (copy p q) c y)
  unfolding step perform get because
  keep_copy i j p q hp hq = both_use x y i j (content x q) (content y q) _ _ (s.registers q hq) s.outputs λ w. both_end (sim_put few p w hp s)

  pub keep_work : (i j : ℕ) (o : Operator) (p q k : ℕ) → p < K.registers → q < K.registers → k < K.registers → Kept L (step e i (work o p q k) c x) (step e₂ j (work o p q k) c y)
  unfolding step perform get because
  keep_work i j o p q k hp hq hk =
      both_use x y i j (content x q) (content y q) _ _ (s.registers q hq) s.outputs λ a.
      both_use x y i j (content x k) (content y k) _ _ (s.registers k hk) s.outputs λ b.
      both_reckon x y i j o a b _ _ s.outputs λ w.
      both_end (sim_put few p w hp s)

  -- ---- the next item of a stream

  -- a stream whose position is below its count has an item, at the next index
  pub record NextItem (q : ℕ) (f : Form) : Type 0 where
    pub there : place q y < count_of (array K q)
    pub spot : Inside (length_of (array K q)) (index (array K q) (place q y))
    pub value_is : value f c.values ≡ pos spot.at

  pub next_item : (q : ℕ) → q < length K.arrays → value (position q L) c.values <ℤ pos (count_of (array K q)) → NextItem q (next_index K q L)
  unfolding next_index index
  next_item q h b =
      let there : place q y < count_of (array K q) = pos_lt (subst (λ z. z <ℤ pos (count_of (array K q))) (s.places q h) b) in
      let spot = tied.items q (place q y) h there in
      record {
        there = there;
        spot = spot;
        value_is = value_along (first_of (array K q)) (step_of (array K q)) (position q L) c.values ∙ ap (λ z. first_of (array K q) +ℤ step_of (array K q) *ℤ z) (s.places q h) ∙ spot.is;
      }

  -- the stream's read of that item
  read_done : (q p : ℕ) {f : Form} → NextItem q f → perform e₂ c.values (read p q) y ≡ ok (advance q (put p (cell e₂ q (place q y)) y))
  unfolding perform ◌>>=◌
  read_done q p n = ap (λ r. r >>= λ i. ok (advance q (put p (cell e₂ q i) y))) (cell_there 34 (e₂.size q) (place q y) (pos (place q y)) refl (subst (λ n. place q y < n) (sym (tied.counts q)) n.there))

  -- the array's load of that cell
  load_done : (q p i : ℕ) (f : Form) → value f c.values ≡ pos i → i < length_of (array K q) → perform e c.values (load p q f) x ≡ ok (put p (cell e q i) x)
  unfolding perform ◌>>=◌
  load_done q p i f v l = ap (λ r. r >>= λ i. ok (put p (cell e q i) x)) (cell_there 33 (e.size q) i (value f c.values) v (subst (λ n. i < n) (sym (tied.sizes q)) l))

  -- rule 2
  pub keep_read : (i j p q : ℕ) (f : Form) → p < K.registers → q < length K.arrays → side_of (array K q) ≡ input
      → value (position q L) c.values <ℤ pos (count_of (array K q)) → value f c.values ≡ value (next_index K q L) c.values
      → Kept (read_step q L) (step e i (load p q f) c x) (step e₂ j (read p q) c y)
  unfolding read_step
  keep_read i j p q f hp hq side b z =
      let n = next_item q hq b in
      let at : value f c.values ≡ pos n.spot.at = z ∙ n.value_is in
      let same_cell : cell e₂ q (place q y) ≡ cell e q n.spot.at = tied.laid q (place q y) n.spot.at hq side n.there n.spot.is in
      subst₂ (Kept (passed q L)) (sym (done e i (load p q f) c x _ (load_done q p n.spot.at f at n.spot.below)))
      (sym (done e₂ j (read p q) c y _ (read_done q p n ∙ ap (λ w. ok (advance q (put p w y))) same_cell)))
      (both_end (sim_pass few q hq few_arrays (sim_put few p (cell e q n.spot.at) hp s)))

  -- rule 3: the stream run alone
  pub keep_fill : (j b q : ℕ) → b < K.buffers → q < length K.arrays → side_of (array K q) ≡ input
      → value (position q L) c.values <ℤ pos (count_of (array K q))
      → Kept (fill_step K b q L) (ok x) (step e₂ j (read (K.registers + b) q) c y)
  unfolding fill_step
  keep_fill j b q hb hq side below =
      let n = next_item q hq below in
      let same_cell : cell e₂ q (place q y) ≡ cell e q n.spot.at = tied.laid q (place q y) n.spot.at hq side n.there n.spot.is in
      let holds : Holding e c.values q (next_index K q L) (some (cell e q n.spot.at)) = record {
        index = n.spot.at;
        at = n.value_is;
        inside = subst (λ k. n.spot.at < k) (sym (tied.sizes q)) n.spot.below;
        has = refl;
      } in
      subst (Kept (passed q (hold b (some (held q (next_index K q L))) L)) (ok x))
      (sym (done e₂ j (read (K.registers + b) q) c y _ (read_done q (K.registers + b) n ∙ ap (λ w. ok (advance q (put (K.registers + b) w y))) same_cell)))
      (both_end (sim_pass few q hq few_arrays (sim_hold few b q (next_index K q L) (cell e q n.spot.at) hb holds s)))

  -- a copy of a buffer that holds something
  copy_done : (p b w : ℕ) → content y (K.registers + b) ≡ some w → perform e₂ c.values (copy p (K.registers + b)) y ≡ ok (put p w y)
  unfolding perform get word ◌>>=◌
  copy_done p b w h = ap (λ u. word u >>= λ w. ok (put p w y)) h

  -- rule 4
  pub keep_use : (i j p b q : ℕ) (f g : Form) → p < K.registers → holding b L ≡ some (held q g) → value f c.values ≡ value g c.values
      → Kept L (step e i (load p q f) c x) (step e₂ j (copy p (K.registers + b)) c y)
  keep_use i j p b q f g hp h z =
      let held_there = s.buffers b q g h in
      subst₂ (Kept L) (sym (done e i (load p q f) c x _ (load_done q p held_there.index f (z ∙ held_there.at) (subst (λ k. held_there.index < k) (tied.sizes q) held_there.inside))))
      (sym (done e₂ j (copy p (K.registers + b)) c y _ (copy_done p b (cell e q held_there.index) held_there.has)))
      (both_end (sim_put few p (cell e q held_there.index) hp s))

  -- rule 5: the stream run alone
  pub keep_move : (j to from : ℕ) (h : Held) → to < K.buffers → holding from L ≡ some h
      → Kept (move_step to from L) (ok x) (step e₂ j (copy (K.registers + to) (K.registers + from)) c y)
  unfolding move_step
  keep_move j to from (held q f) l h =
      let held_there = s.buffers from q f h in
      subst₂ (λ M r. Kept M (ok x) r) (ap (λ g. hold to g L) (sym h))
      (sym (done e₂ j (copy (K.registers + to) (K.registers + from)) c y _ (copy_done (K.registers + to) from (cell e q held_there.index) held_there.has)))
      (both_end (sim_hold few to q f (cell e q held_there.index) l (record { index = held_there.index; at = held_there.at; inside = held_there.inside; has = refl }) s))

  -- rule 6
  pub keep_write : (i j p q : ℕ) (f : Form) → p < K.registers → q < length K.arrays → side_of (array K q) ≡ output
      → value (position q L) c.values <ℤ pos (count_of (array K q)) → value f c.values ≡ value (next_index K q L) c.values
      → Kept (write_step q L) (step e i (store p q f) c x) (step e₂ j (write p q) c y)
  unfolding write_step step perform get
  keep_write i j p q f hp hq side b z =
      let n = next_item q hq b in
      let at : value f c.values ≡ pos n.spot.at = z ∙ n.value_is in
      let stored : (w : ℕ) → (cell_number 33 (e.size q) (value f c.values) >>= λ i. ok (keep e q i w x)) ≡ ok (keep e q n.spot.at w x) = λ w.
      bound (λ i. ok (keep e q i w x)) (cell_there 33 (e.size q) n.spot.at (value f c.values) at (subst (λ k. n.spot.at < k) (sym (tied.sizes q)) n.spot.below)) in
      let written : (w : ℕ) → (cell_number 35 (e₂.size q) (pos (place q y)) >>= λ i. ok (advance q (keep e₂ q i w y))) ≡ ok (advance q (keep e₂ q (place q y) w y)) = λ w.
      bound (λ i. ok (advance q (keep e₂ q i w y))) (cell_there 35 (e₂.size q) (place q y) (pos (place q y)) refl (subst (λ k. place q y < k) (sym (tied.counts q)) n.there)) in
      both_use x y i j (content x p) (content y p) _ _ (s.registers p hp) s.outputs λ w.
      subst₂ (Kept (passed q L)) (ap (because (λ r. stuck r i x)) (sym (stored w))) (ap (because (λ r. stuck r j y)) (sym (written w)))
      (kept_both (sim_pass few q hq few_arrays (sim_keep e₂ q (place q y) n.spot.at w (tied.placed q (place q y) n.spot.at w y.output hq side n.there n.spot.is s.sized.items) s)))
    where
      bound : {A : Type 0} {r : Result ℕ A} {a : A} (g : A → Result ℕ State) → r ≡ ok a → (r >>= g) ≡ g a
      bound g h = unfold ◌>>=◌ in ap (λ r. r >>= g) h

      kept_both : {M : Ledger} {u v : State} → Sim K e M c.values u v → Kept M (because (λ r. stuck r i x) (ok u)) (because (λ r. stuck r j y) (ok v))
      kept_both h = unfold because in both_end h
