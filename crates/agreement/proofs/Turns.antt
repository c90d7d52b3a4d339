-- What keeps the tie where a ledger changes and no statement runs: entering a loop, its next pass, leaving it, and the end of an if.
use mathlib.Core.Path.{◌≡◌, refl, sym, ap, subst, ◌∙◌}
use mathlib.Core.Bool.{Bool, true, false, cond}
use mathlib.Core.List.{List, [], ◌∷◌, map}
use mathlib.Core.Option.{Option, none, some}
use Prim.Native.Nat.{ℕ, zero, suc, ◌<◌}
use native.Mathlib.Omega.{arith}
use lib.ListN.{length, get_or, length-map, get_or-map}
use lib.IntN.{ℤ, pos}
use Rattle.numbers.specs.Lists.{Pairwise, more}
use Rattle.forms.specs.Form.{Form, value, constant, Loop, Equal}
use Rattle.kernel.specs.File.{Kernel}
use Rattle.kernel.specs.Ledger.{Held, held, Ledger, position, holding, each_held, each, holds_just, kept, kept_all, merged}
use Rattle.kernel.specs.Rules.{Holds, holds, PositionsEqual, RowTrue, says_nothing, says_so, RowsTrue}
use Rattle.agreement.proofs.Tested.{just_says}
use Rattle.agreement.proofs.Sim.{SameValues}

-- ---- rows

pub map_at : {A B : Type 0} (f : A → B) (l : List A) (i : ℕ) (d : A) (e : B) → i < length l → get_or (map f l) i e ≡ f (get_or l i d)
map_at f [] i d e h = absurd (none_there h)
  where
    none_there : i < 0 → ⊥
    none_there h = omega arith
map_at f (x ∷ l) zero d e h = refl
map_at f (x ∷ l) (suc i) d e h = map_at f l i d e (omega arith)

pairs_length : {A B : Type 0} {R : A → B → Type 0} {xs : List A} {ys : List B} → Pairwise R xs ys → length xs ≡ length ys
pairs_length Pairwise.none = refl
pairs_length (more r p) = ap suc (pairs_length p)

-- what is held
pub holds_says : {around : List Loop} {q : ℕ} {f : Form} {h : Option Held} → Holds around (held q f) h → (g : Form) × (h ≡ some (held q g)) × Equal around f g
holds_says (holds {g} e) = (g, refl, e)

-- what a row says of a buffer that the ledger has
row_held : {around : List Loop} {rs hs : List (Option Held)} → Pairwise (RowTrue around) rs hs → (b q : ℕ) (f : Form) → get_or rs b none ≡ some (held q f) → Holds around (held q f) (get_or hs b none)
row_held Pairwise.none b q f e = absurd (let z : ◌≡◌ {A = ℕ} 0 1 = cc in omega arith)
row_held (more says_nothing p) zero q f e = absurd (let z : ◌≡◌ {A = ℕ} 0 1 = cc in omega arith)
row_held {around} (more {y} (says_so {r} h) p) zero q f e = subst (λ r. Holds around r y) (let same_held : r ≡ held q f = cc in same_held) h
row_held (more r p) (suc b) q f e = row_held p b q f e

-- ---- equal forms

-- they have one value at these counters
pub record OneValue (around : List Loop) (cs : List ℤ) : Type 0 where
  pub equal_forms : (f g : Form) → Equal around f g → value f cs ≡ value g cs

module _ {around : List Loop} {cs : List ℤ} (one : OneValue around cs) where
  equal_at : {fs gs : List Form} → Pairwise (Equal around) fs gs → (q : ℕ) → value (get_or fs q (constant (pos 0))) cs ≡ value (get_or gs q (constant (pos 0))) cs
  equal_at Pairwise.none q = refl
  equal_at (more {x} {y} e p) zero = one.equal_forms x y e
  equal_at (more e p) (suc q) = equal_at p q

  held_at : {q : ℕ} {f : Form} {h : Option Held} → Holds around (held q f) h → (g : Form) × (h ≡ some (held q g)) × (value f cs ≡ value g cs)
  held_at {f} h = let (g, z, e) = holds_says h in (g, z, one.equal_forms f g e)

-- ---- every form of a ledger changed

-- what a changed buffer held
each_back : (g : Form → Form) (o : Option Held) (q : ℕ) (f : Form) → each_held g o ≡ some (held q f) → (f₀ : Form) × (o ≡ some (held q f₀)) × (f ≡ g f₀)
unfolding each_held
each_back g none q f e = absurd (let z : ◌≡◌ {A = ℕ} 0 1 = cc in omega arith)
each_back g (some (held r f₀)) q f e =
    let same_array : r ≡ q = cc in
    let same_form : g f₀ ≡ f = cc in
    (f₀, ap (λ r. some (held r f₀)) same_array, sym same_form)

each_one : (g : Form → Form) (q : ℕ) (f : Form) → each_held g (some (held q f)) ≡ some (held q (g f))
unfolding each_held
each_one g q f = refl

each_holding : (g : Form → Form) (L : Ledger) (b : ℕ) → holding b (each g L) ≡ each_held g (holding b L)
unfolding holding each each_held
each_holding g L b = get_or-map (each_held g) L.buffers b none

each_position : (g : Form → Form) (L : Ledger) (q : ℕ) → q < length L.positions → position q (each g L) ≡ g (position q L)
unfolding position each
each_position g L q h = map_at g L.positions q (constant (pos 0)) (constant (pos 0)) h

module _ (K : Kernel) (rows : Ledger) (positions : length rows.positions ≡ length K.arrays) (buffers : length rows.buffers ≡ K.buffers) where
  each_lengths : (g : Form → Form) → (length (each g rows).positions ≡ length K.arrays) × (length (each g rows).buffers ≡ K.buffers)
  unfolding each
  each_lengths g = (length-map rows.positions g ∙ positions, length-map rows.buffers (each_held g) ∙ buffers)

  -- rows that are true of a ledger say no more than it
  pub rows_values : {around : List Loop} (g : Form → Form) (L : Ledger) (cs : List ℤ) → OneValue around cs
      → RowsTrue around (each g rows) L → SameValues K L cs (each g rows) cs
  unfolding position holding
  rows_values g L cs one r = record {
    positions = (each_lengths g).0;
    buffers = (each_lengths g).1;
    position_values = λ q h. equal_at one r.positions q;
    held_values = λ b q f e. held_at one (row_held r.buffers b q f e);
  }

  -- the same values under a change of the forms and of the counters
  pub turned_values : (g h : Form → Form) (cs ds : List ℤ) → ((f : Form) → value (h f) ds ≡ value (g f) cs) → SameValues K (each g rows) cs (each h rows) ds
  turned_values g h cs ds v = record {
    positions = (each_lengths h).0;
    buffers = (each_lengths h).1;
    position_values = λ q l.
        ap (λ f. value f ds) (each_position h rows q (omega (arith, positions))) ∙ v (position q rows) ∙ ap (λ f. value f cs) (sym (each_position g rows q (omega (arith, positions))));
    held_values = λ b q f e.
        let (f₀, e₀, z) = each_back h (holding b rows) q f (sym (each_holding h rows b) ∙ e) in
        (g f₀, each_holding g rows b ∙ ap (each_held g) e₀ ∙ each_one g q f₀, ap (λ f. value f ds) z ∙ v f₀);
  }

  -- nothing changed
  pub plain_values : (g : Form → Form) (cs ds : List ℤ) → ((f : Form) → value f ds ≡ value (g f) cs) → SameValues K (each g rows) cs rows ds
  plain_values g cs ds v = record {
    positions = positions;
    buffers = buffers;
    position_values = λ q l. v (position q rows) ∙ ap (λ f. value f cs) (sym (each_position g rows q (omega (arith, positions))));
    held_values = λ b q f e. (g f, each_holding g rows b ∙ ap (each_held g) e ∙ each_one g q f, v f);
  }

-- ---- the end of an if

kept_first : (around : List Loop) (g h : Option Held) (k : Held) → kept around g h ≡ some k → g ≡ some k
unfolding kept
kept_first around none h k e = e
kept_first around (some r) h k e = by (holds_just around r h) e
  where
    by : (t : Bool) → cond t (some r) none ≡ some k → some r ≡ some k
    by true e = e
    by false e = absurd (let z : ◌≡◌ {A = ℕ} 0 1 = cc in omega arith)

kept_second : (around : List Loop) (g h : Option Held) (k : Held) → kept around g h ≡ some k → Holds around k h
unfolding kept
kept_second around none h k e = absurd (let z : ◌≡◌ {A = ℕ} 0 1 = cc in omega arith)
kept_second around (some r) h k e = by (holds_just around r h) refl e
  where
    by : (t : Bool) → holds_just around r h ≡ t → cond t (some r) none ≡ some k → Holds around k h
    by true u e = subst (λ r. Holds around r h) (let same_held : r ≡ k = cc in same_held) (just_says r h u)
    by false u e = absurd (let z : ◌≡◌ {A = ℕ} 0 1 = cc in omega arith)

kept_at : (around : List Loop) (hs gs : List (Option Held)) (b : ℕ) (k : Held) → get_or (kept_all around hs gs) b none ≡ some k → (get_or hs b none ≡ some k) × Holds around k (get_or gs b none)
unfolding kept_all
kept_at around [] gs b k e = absurd (let z : ◌≡◌ {A = ℕ} 0 1 = cc in omega arith)
kept_at around (h ∷ hs) [] b k e = absurd (let z : ◌≡◌ {A = ℕ} 0 1 = cc in omega arith)
kept_at around (h ∷ hs) (g ∷ gs) zero k e = (kept_first around h g k e, kept_second around h g k e)
kept_at around (h ∷ hs) (g ∷ gs) (suc b) k e = kept_at around hs gs b k e

pub kept_length : (around : List Loop) (hs gs : List (Option Held)) → length hs ≡ length gs → length (kept_all around hs gs) ≡ length hs
unfolding kept_all
kept_length around [] gs e = refl
kept_length around (h ∷ hs) [] e = absurd (omega arith)
kept_length around (h ∷ hs) (g ∷ gs) e = ap suc (kept_length around hs gs (omega arith))

module _ (around : List Loop) (K : Kernel) (L M : Ledger) (cs : List ℤ) (positions : length L.positions ≡ length K.arrays) (first : length L.buffers ≡ K.buffers) (second : length M.buffers ≡ K.buffers) where
  merged_buffers : length (merged around L M).buffers ≡ K.buffers
  unfolding merged
  merged_buffers = kept_length around L.buffers M.buffers (first ∙ sym second) ∙ first

  -- after the first branch
  pub first_values : SameValues K L cs (merged around L M) cs
  unfolding merged position holding
  first_values = record {
    positions = positions;
    buffers = merged_buffers;
    position_values = λ q h. refl;
    held_values = λ b q f e. (f, (kept_at around L.buffers M.buffers b (held q f) e).0, refl);
  }

  -- after the second, whose positions are equal
  pub second_values : OneValue around cs → PositionsEqual around L M → SameValues K M cs (merged around L M) cs
  unfolding merged position holding
  second_values one z = record {
    positions = positions;
    buffers = merged_buffers;
    position_values = λ q h. equal_at one z q;
    held_values = λ b q f e. held_at one (kept_at around L.buffers M.buffers b (held q f) e).1;
  }
