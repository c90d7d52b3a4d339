-- Each step on the code's ledger is that of the definitions, whatever counts of streams and buffers it is seen with.
use Prim.Native.Nat.{ℕ, ◌≤◌, ◌<◌}
use mathlib.Core.Path.{◌≡◌, refl, sym, ap, ◌∙◌}
use mathlib.Core.List.{List, [], ◌∷◌, map}
use mathlib.Core.Option.{some}
use Rattle.std.proofs.Common.{Option, Some, None}
use lib.ListN.{length, get_or, set, take, replicate}
use lib.IntN.{pos}
use Rattle.forms.specs.Form as F
use Rattle.forms.specs.Code.{form}
use Rattle.forms.specs.declared.Form.{Form}
use Rattle.kernel.specs.File as File
use Rattle.kernel.specs.Ledger as L
use Rattle.check_ledger.specs.declared.Held.{Held}
use Rattle.check_ledger.specs.declared.Ledger.{Ledger}
use Rattle.check_ledger.specs.View.{zeros, held, ledger, no_form}
use Rattle.check_ledger.proofs.Rows.{view_at, view_within, view_set, view_alike}

-- ---- the start

-- a row of one value for each of the elements
each_alike : {A B : Type 0} (x : B) (l : List A) → replicate (length l) x ≡ map (λ a. x) l
each_alike x [] = refl
each_alike x (a ∷ l) = ap (λ l. x ∷ l) (each_alike x l)

pub fresh_right : (K : File.Kernel) → length K.arrays ≤ 8 → K.buffers ≤ 16 → ledger (length K.arrays) K.buffers zeros ≡ L.fresh K
unfolding ledger held L.fresh
fresh_right K a b = λ i. record {
  positions = (view_alike form (length K.arrays) 8 _ a ∙ each_alike (F.constant (pos 0)) K.arrays) i;
  buffers = view_alike held K.buffers 16 None b i;
}

-- ---- steps

module _ (a d : ℕ) (l : Ledger) where
  pub position_right : (q : ℕ) → q < a → q < length l.positions → L.position q (ledger a d l) ≡ form (get_or l.positions q no_form)
  unfolding ledger L.position
  position_right q h k = view_within form a l.positions q no_form _ h k

  pub holding_right : (b : ℕ) → b < d → L.holding b (ledger a d l) ≡ held (get_or l.buffers b None)
  unfolding ledger L.holding held
  holding_right b h = view_at held d l.buffers b None h

  pub passed_right : (q : ℕ) {f : Form} → form f ≡ F.plus_one (form (get_or l.positions q no_form)) → q < a → q < length l.positions → ledger a d (record { positions = set l.positions q f; buffers = l.buffers }) ≡ L.passed q (ledger a d l)
  unfolding ledger L.passed
  passed_right q {f} e h k = λ i. record {
    positions = (view_set form a l.positions q f ∙ ap (set (map form (take a l.positions)) q) (e ∙ ap F.plus_one (sym (position_right q h k)))) i;
    buffers = map held (take d l.buffers);
  }

  pub hold_right : (b : ℕ) (h : Option Held) → ledger a d (record { positions = l.positions; buffers = set l.buffers b h }) ≡ L.hold b (held h) (ledger a d l)
  unfolding ledger L.hold
  hold_right b h = λ i. record { positions = map form (take a l.positions); buffers = view_set held d l.buffers b h i }

  -- at an index that is reckoned in any way
  pub held_at : (b : ℕ) {i : ℕ} (h : Option Held) → i ≡ b → ledger a d (record { positions = l.positions; buffers = set l.buffers i h }) ≡ L.hold b (held h) (ledger a d l)
  held_at b {i} h e = hold_right i h ∙ ap (λ i. L.hold i (held h) (ledger a d l)) e

  pub holds_at : (b : ℕ) {i : ℕ} → i ≡ b → b < d → held (get_or l.buffers i None) ≡ L.holding b (ledger a d l)
  holds_at b e h = ap (λ i. held (get_or l.buffers i None)) e ∙ sym (holding_right b h)

  -- what a fill holds
  pub filled : (K : File.Kernel) (q : ℕ) {f : Form} → form f ≡ F.along (File.first_of (File.array K q)) (File.step_of (File.array K q)) (form (get_or l.positions q no_form))
      → q < a → q < length l.positions → held (Some (record { array = q; index = f })) ≡ some (L.held q (L.next_index K q (ledger a d l)))
  unfolding held L.next_index
  filled K q e h k = ap (λ g. some (L.held q g)) (e ∙ ap (F.along (File.first_of (File.array K q)) (File.step_of (File.array K q))) (sym (position_right q h k)))
