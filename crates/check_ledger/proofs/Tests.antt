-- Whether a row states what a buffer holds; what both branches have, cell by cell; and the positions of one ledger taken by another.
use Prim.Native.Nat.{ℕ, ◌+◌, ◌≤◌, ◌<◌}
use mathlib.Core.Path.{◌≡◌, refl, sym, ap, ap₂, ◌∙◌}
use mathlib.Core.Bool.{Bool, true, false, cond}
use mathlib.Core.List.{List, [], ◌∷◌, ◌++◌, map}
use mathlib.Core.Option as Math
use native.Mathlib.Omega.{arith}
use lib.ListN.{length, get_or, set, take}
use lib.Seq.{get_or-set_other}
use Rattle.std.proofs.Common.{Option, Some, None}
use Rattle.std.specs.Bool.{then_some}
use Rattle.std.specs.Option.{MatchOption}
use Rattle.forms.specs.Form as F
use Rattle.forms.specs.Code.{form}
use Rattle.kernel.specs.Ledger as L
use Rattle.check_ledger.specs.declared.Held.{Held}
use Rattle.check_ledger.specs.declared.Ledger.{Ledger}
use Rattle.check_ledger.specs.View.{content, held, ledger, Bounded, Took, Kept}
use Rattle.check_ledger.proofs.Bounds.{bounded_same}
use Rattle.check_ledger.proofs.Loops.{Written, long_view, written_starts, view_more, written_more}

-- ---- a buffer row against a buffer, and what both branches have

module _ (around : List F.Loop) where
  pub row_true_by : (row buffer : Option Held) (r : Bool) {Q : Held → Type 0} → MatchOption row (r ≡ true) Q → ((h : Held) → Q h → r ≡ L.holds_just around (content h) (held buffer)) → r ≡ L.row_true around (held row) (held buffer)
  unfolding L.row_true held
  row_true_by None buffer r e f = e
  row_true_by (Some h) buffer r q f = f h q

  pub kept_by : (first second r : Option Held) {Q : Held → Bool → Type 0} → MatchOption first (r ≡ None) (λ h. (b : Bool) × Q h b × (r ≡ then_some b h))
      → ((h : Held) (b : Bool) → Q h b → b ≡ L.holds_just around (content h) (held second)) → held r ≡ L.kept around (held first) (held second)
  unfolding L.kept held
  kept_by None second r e f = ap held e
  kept_by (Some h) second r (true, q, is) f = ap held is ∙ ap (λ b. cond b (Math.some (content h)) Math.none) (f h true q)
  kept_by (Some h) second r (false, q, is) f = ap held is ∙ ap (λ b. cond b (Math.some (content h)) Math.none) (f h false q)

  -- of the first i buffers
  abbrev pub kept_of : (p q : List (Option Held)) → ℕ → List (Math.Option L.Held)
  kept_of p q i = L.kept_all around (map held (take i p)) (map held (take i q))

  kept_append : (hs gs : List (Math.Option L.Held)) (h g : Math.Option L.Held) → length hs ≡ length gs
      → L.kept_all around (hs ++ h ∷ []) (gs ++ g ∷ []) ≡ L.kept_all around hs gs ++ L.kept around h g ∷ []
  unfolding L.kept_all
  kept_append [] [] h g e = refl
  kept_append [] (y ∷ gs) h g e = absurd (omega arith)
  kept_append (x ∷ hs) [] h g e = absurd (omega arith)
  kept_append (x ∷ hs) (y ∷ gs) h g e = ap (λ l. L.kept around x y ∷ l) (kept_append hs gs h g (omega arith))

  pub kept_more : (p q : List (Option Held)) {r : List (Option Held)} {n i : ℕ} (x : Option Held) → n ≤ length p → n ≤ length q → i < n → i < length r
      → held x ≡ L.kept around (held (get_or p i None)) (held (get_or q i None)) → Written held (kept_of p q) n i r → Written held (kept_of p q) n (i + 1) (set r i x)
  kept_more p q {i = i} x l m h g e W =
      written_more W x h g
      (ap₂ (L.kept_all around) (view_more held p i None (omega arith)) (view_more held q i None (omega arith))
      ∙ kept_append (map held (take i p)) (map held (take i q)) (held (get_or p i None)) (held (get_or q i None)) (long_view held i p (omega arith) ∙ sym (long_view held i q (omega arith)))
      ∙ ap (λ y. kept_of p q i ++ y ∷ []) (sym e))

-- ---- the loop over the buffers of both branches: the first i of r are what both have, the others still those of the second

pub record Keeping (around : List F.Loop) (first l : Ledger) (b i : ℕ) (r : Ledger) : Type 0 where
  pub positions_are : r.positions ≡ l.positions
  pub written : Written held (kept_of around first.buffers l.buffers) b i r.buffers
  pub rest : (j : ℕ) → i ≤ j → get_or r.buffers j None ≡ get_or l.buffers j None

module _ {around : List F.Loop} {first l : Ledger} {b : ℕ} where
  pub keep_starts : Keeping around first l b 0 l
  unfolding L.kept_all
  keep_starts = record { positions_are = refl; written = written_starts refl; rest = λ j h. refl }

  module _ {i : ℕ} {r : Ledger} (M : Keeping around first l b i r) where
    pub keep_more : (x : Option Held) → b ≤ length first.buffers → b ≤ length l.buffers → i < b → i < length r.buffers → held x ≡ L.kept around (held (get_or first.buffers i None)) (held (get_or r.buffers i None))
        → Keeping around first l b (i + 1) (record { positions = r.positions; buffers = set r.buffers i x })
    keep_more x few few' h g e =
        record {
          positions_are = M.positions_are;
          written = kept_more around first.buffers l.buffers x few few' h g (e ∙ ap (λ y. L.kept around (held (get_or first.buffers i None)) (held y)) (M.rest i (omega arith))) M.written;
          rest = λ j k. get_or-set_other r.buffers i j x None (λ q. omega (arith, k, q)) ∙ M.rest j (omega arith);
        }

-- ---- both

module _ {around : List F.Loop} {a b : ℕ} {first l m r : Ledger} (T : Took a first l m) (M : Kept b around first m r) where
  pub merged_right : ledger a b r ≡ L.merged around (ledger a b first) (ledger a b l)
  unfolding ledger L.merged
  merged_right = λ t. record {
    positions = (ap (λ ps. map form (take a ps)) M.positions_are ∙ T.positions_are) t;
    buffers = (M.buffers_are ∙ ap (λ bs. L.kept_all around (map held (take b first.buffers)) (map held (take b bs))) T.buffers_are) t;
  }

  pub merged_bounded : {n : ℕ} → Bounded n first → Bounded n l → Bounded n r
  merged_bounded {n} f h = bounded_same (T.bounded n f h) M.positions_are
