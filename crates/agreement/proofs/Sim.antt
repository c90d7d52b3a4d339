-- What ties an array run to a stream run while both follow one derivation, and how each small change keeps it.
use mathlib.Core.Path.{◌≡◌, sym, ap, subst, ◌∙◌}
use mathlib.Core.Logic.{◌⊎◌}
use mathlib.Core.List.{List}
use mathlib.Core.Option.{Option, none, some}
use Prim.Native.Nat.{ℕ, ◌+◌, ◌<◌, ◌≤◌}
use native.Mathlib.Omega.{arith}
use native.Mathlib.Decide.{ℕ_discrete}
use lib.ListN.{length, get_or, set, length-set}
use lib.Seq.{get_or-set_same, get_or-set_other}
use lib.IntN.{ℤ, pos, ◌+ℤ◌}
use Rattle.numbers.specs.Result.{Result, ok, stop}
use Rattle.forms.specs.Form.{Form, value, constant, plus_one}
use Rattle.forms.proofs.Values.{value_plus_one}
use Rattle.kernel.specs.File.{Kernel, output, count_of}
use Rattle.kernel.specs.Machine.{Layout, State, put, place, advance, cell, keep, Stuck, stuck}
use Rattle.kernel.specs.Memory.{total, put_back}
use Rattle.kernel.specs.Ledger.{held, Ledger, position, holding, passed, hold}

-- a register's content, and a register that has the element that a form names
abbrev pub content : State → ℕ → Option ℕ
content s p = get_or s.registers p (some 0)

pub record Holding (e : Layout) (cs : List ℤ) (q : ℕ) (f : Form) (r : Option ℕ) : Type 0 where
  pub index : ℕ
  pub at : value f cs ≡ pos index
  pub inside : index < e.size q
  pub has : r ≡ some (cell e q index)

-- rows are as long as they should be
pub record LengthsFit (K : Kernel) (L : Ledger) (x y : State) : Type 0 where
  pub array_registers : length x.registers ≡ 48
  pub stream_registers : length y.registers ≡ 48
  pub places : length y.places ≡ 8
  pub items : length y.output ≡ total output count_of K
  pub positions : length L.positions ≡ length K.arrays
  pub buffers : length L.buffers ≡ K.buffers

-- array run at x, stream run at y, the derivation's ledger L, the counters: e is the array run's layout
pub record Sim (K : Kernel) (e : Layout) (L : Ledger) (cs : List ℤ) (x y : State) : Type 0 where
  pub sized : LengthsFit K L x y
  pub registers : (p : ℕ) → p < K.registers → content x p ≡ content y p
  pub places : (q : ℕ) → q < length K.arrays → value (position q L) cs ≡ pos (place q y)
  pub buffers : (b q : ℕ) (f : Form) → holding b L ≡ some (held q f) → Holding e cs q f (content y (K.registers + b))
  pub outputs : x.output ≡ put_back K y.output

-- a reason that both runs may stick for
abbrev pub Reason : ℕ → Type 0
Reason r = (r ≡ 31) ⊎ (r ≡ 32)

-- both end, in tied states; or both stick for one reason, with tied outputs
pub data Related (K : Kernel) (e : Layout) (L : Ledger) (cs : List ℤ) : Result Stuck State → Result Stuck State → Type 0 where
  both_end : {x y : State} → Sim K e L cs x y → Related K e L cs (ok x) (ok y)
  both_stick : {x y : State} {r i j : ℕ} → Reason r → x.output ≡ put_back K y.output → Related K e L cs (stop (stuck r i x)) (stop (stuck r j y))

-- ---- rows with one element changed

module _ {A : Type 0} where
  pub set_same : (l : List A) (i : ℕ) (a d : A) (n : ℕ) → length l ≡ n → i < n → get_or (set l i a) i d ≡ a
  set_same l i a d n e h = get_or-set_same l i a d (omega arith)

  pub set_other : (l : List A) (i j : ℕ) (a d : A) → (i ≡ j → ⊥) → get_or (set l i a) j d ≡ get_or l j d
  set_other l i j a d f = get_or-set_other l i j a d (λ e. f (sym e))

  pub set_length : (l : List A) (i : ℕ) (a : A) {n : ℕ} → length l ≡ n → length (set l i a) ≡ n
  set_length l i a e = length-set l i a ∙ e

-- ---- registers

module _ {K : Kernel} {e : Layout} {cs : List ℤ} (few : K.registers + K.buffers ≤ 48) where
  -- both set a register that is no buffer
  pub sim_put : {L : Ledger} {x y : State} (p w : ℕ) → p < K.registers → Sim K e L cs x y → Sim K e L cs (put p w x) (put p w y)
  unfolding put place
  sim_put {L} {x} {y} p w h s = record {
    sized = record {
      array_registers = set_length x.registers p (some w) s.sized.array_registers;
      stream_registers = set_length y.registers p (some w) s.sized.stream_registers;
      places = s.sized.places;
      items = s.sized.items;
      positions = s.sized.positions;
      buffers = s.sized.buffers;
    };
    registers = λ q k. same q k (ℕ_discrete p q);
    places = s.places;
    buffers = λ b q f k. subst (Holding e cs q f) (sym (set_other y.registers p (K.registers + b) (some w) (some 0) (λ z. omega arith))) (s.buffers b q f k);
    outputs = s.outputs;
  }
    where
      same : (q : ℕ) → q < K.registers → Dec (p ≡ q) → get_or (set x.registers p (some w)) q (some 0) ≡ get_or (set y.registers p (some w)) q (some 0)
      same q k (yes z) =
          subst (λ q. get_or (set x.registers p (some w)) q (some 0) ≡ get_or (set y.registers p (some w)) q (some 0)) z
          (set_same x.registers p (some w) (some 0) 48 s.sized.array_registers (omega arith) ∙ sym (set_same y.registers p (some w) (some 0) 48 s.sized.stream_registers (omega arith)))
      same q k (no z) = set_other x.registers p q (some w) (some 0) z ∙ s.registers q k ∙ sym (set_other y.registers p q (some w) (some 0) z)

  -- the stream run sets a buffer to what the ledger then says that it holds
  pub sim_hold : {L : Ledger} {x y : State} (b q : ℕ) (f : Form) (w : ℕ) → b < K.buffers → Holding e cs q f (some w)
      → Sim K e L cs x y → Sim K e (hold b (some (held q f)) L) cs x (put (K.registers + b) w y)
  unfolding put place hold position holding
  sim_hold {L} {x} {y} b q f w l h s = record {
    sized = record {
      array_registers = s.sized.array_registers;
      stream_registers = set_length y.registers (K.registers + b) (some w) s.sized.stream_registers;
      places = s.sized.places;
      items = s.sized.items;
      positions = s.sized.positions;
      buffers = set_length L.buffers b (some (held q f)) s.sized.buffers;
    };
    registers = λ p k. s.registers p k ∙ sym (set_other y.registers (K.registers + b) p (some w) (some 0) (λ z. omega arith));
    places = s.places;
    buffers = λ d r g k. kept d r g k (ℕ_discrete b d);
    outputs = s.outputs;
  }
    where
      kept : (d r : ℕ) (g : Form) → get_or (set L.buffers b (some (held q f))) d none ≡ some (held r g) → Dec (b ≡ d) → Holding e cs r g (get_or (set y.registers (K.registers + b) (some w)) (K.registers + d) (some 0))
      kept d r g k (yes z) =
          let both : some (held q f) ≡ some (held r g) = sym (set_same L.buffers b (some (held q f)) none K.buffers s.sized.buffers l) ∙ ap (λ d. get_or (set L.buffers b (some (held q f))) d none) z ∙ k in
          let same_array : q ≡ r = cc in
          let same_form : f ≡ g = cc in
          let now : some w ≡ get_or (set y.registers (K.registers + b) (some w)) (K.registers + d) (some 0) =
          sym (set_same y.registers (K.registers + b) (some w) (some 0) 48 s.sized.stream_registers (omega arith)) ∙ ap (λ d. get_or (set y.registers (K.registers + b) (some w)) (K.registers + d) (some 0)) z in
          subst (Holding e cs r g) now (subst (λ g. Holding e cs r g (some w)) same_form (subst (λ r. Holding e cs r f (some w)) same_array h))
      kept d r g k (no z) =
          subst (Holding e cs r g) (sym (set_other y.registers (K.registers + b) (K.registers + d) (some w) (some 0) (λ u. z (omega arith))))
          (s.buffers d r g (sym (set_other L.buffers b d (some (held q f)) none z) ∙ k))

  -- ---- places

  -- a stream goes on by one, in the run and in the ledger
  pub sim_pass : {L : Ledger} {x y : State} (q : ℕ) → q < length K.arrays → length K.arrays ≤ 8 → Sim K e L cs x y → Sim K e (passed q L) cs x (advance q y)
  unfolding advance place passed position holding
  sim_pass {L} {x} {y} q h few_arrays s = record {
    sized = record {
      array_registers = s.sized.array_registers;
      stream_registers = s.sized.stream_registers;
      places = set_length y.places q (get_or y.places q 0 + 1) s.sized.places;
      items = s.sized.items;
      positions = set_length L.positions q (plus_one (position q L)) s.sized.positions;
      buffers = s.sized.buffers;
    };
    registers = s.registers;
    places = λ r k. gone r k (ℕ_discrete q r);
    buffers = s.buffers;
    outputs = s.outputs;
  }
    where
      gone : (r : ℕ) → r < length K.arrays → Dec (q ≡ r)
          → value (get_or (set L.positions q (plus_one (position q L))) r (constant (pos 0))) cs ≡ pos (get_or (set y.places q (get_or y.places q 0 + 1)) r 0)
      gone r k (yes z) =
          subst (λ r. value (get_or (set L.positions q (plus_one (position q L))) r (constant (pos 0))) cs ≡ pos (get_or (set y.places q (get_or y.places q 0 + 1)) r 0)) z
          (ap (λ f. value f cs) (set_same L.positions q (plus_one (position q L)) (constant (pos 0)) (length K.arrays) s.sized.positions h)
          ∙ value_plus_one (position q L) cs ∙ ap (λ z. z +ℤ pos 1) (s.places q h)
          ∙ ap pos (sym (set_same y.places q (get_or y.places q 0 + 1) 0 8 s.sized.places (omega arith))))
      gone r k (no z) =
          ap (λ f. value f cs) (set_other L.positions q r (plus_one (position q L)) (constant (pos 0)) z) ∙ s.places r k
          ∙ ap pos (sym (set_other y.places q r (get_or y.places q 0 + 1) 0 z))

-- ---- outputs

-- the array run stores what the stream run writes, where putting back agrees
pub sim_keep : {K : Kernel} {e : Layout} {L : Ledger} {cs : List ℤ} {x y : State} (e₂ : Layout) (q j i w : ℕ)
    → put_back K (set y.output (e₂.base q + j) w) ≡ set (put_back K y.output) (e.base q + i) w
    → Sim K e L cs x y → Sim K e L cs (keep e q i w x) (keep e₂ q j w y)
unfolding keep place
sim_keep {e} {x} {y} e₂ q j i w h s = record {
  sized = record {
    array_registers = s.sized.array_registers;
    stream_registers = s.sized.stream_registers;
    places = s.sized.places;
    items = set_length y.output (e₂.base q + j) w s.sized.items;
    positions = s.sized.positions;
    buffers = s.sized.buffers;
  };
  registers = s.registers;
  places = s.places;
  buffers = s.buffers;
  outputs = ap (λ m. set m (e.base q + i) w) s.outputs ∙ sym h;
}

-- ---- another ledger, or other counters, with the same values

pub record SameValues (K : Kernel) (L : Ledger) (cs : List ℤ) (M : Ledger) (ds : List ℤ) : Type 0 where
  pub positions : length M.positions ≡ length K.arrays
  pub buffers : length M.buffers ≡ K.buffers
  pub position_values : (q : ℕ) → q < length K.arrays → value (position q M) ds ≡ value (position q L) cs
  pub held_values : (b q : ℕ) (f : Form) → holding b M ≡ some (held q f) → (g : Form) × (holding b L ≡ some (held q g)) × (value f ds ≡ value g cs)

pub sim_turn : {K : Kernel} {e : Layout} {L M : Ledger} {cs ds : List ℤ} {x y : State} → SameValues K L cs M ds → Sim K e L cs x y → Sim K e M ds x y
sim_turn v s = record {
  sized = record {
    array_registers = s.sized.array_registers;
    stream_registers = s.sized.stream_registers;
    places = s.sized.places;
    items = s.sized.items;
    positions = v.positions;
    buffers = v.buffers;
  };
  registers = s.registers;
  places = λ q h. v.position_values q h ∙ s.places q h;
  buffers = λ b q f h.
      let (g, k, z) = v.held_values b q f h in
      let r = s.buffers b q g k in
      record { index = r.index; at = z ∙ r.at; inside = r.inside; has = r.has };
  outputs = s.outputs;
}
