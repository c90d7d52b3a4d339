-- Rows of a derivation, one after another, as the ledger that they state.
use Prim.Native.Nat.{ℕ, suc, ◌+◌, ◌^◌, ◌≤◌, ◌<◌}
use mathlib.Core.Path.{◌≡◌, refl, sym, ap, subst, ◌∙◌}
use mathlib.Core.Bool.{Bool, true, false, cond}
use mathlib.Core.List.{List, [], ◌∷◌, ◌++◌, map}
use mathlib.Core.Option.{none, some}
use native.Mathlib.Omega.{arith}
use native.Mathlib.Numerals.{add-one}
use lib.ListN.{length, get_or, set, take, drop, length-drop}
use lib.Dec.{eqb}
use lib.Seq.{get_or-drop, take-take, drop-drop}
use Rattle.std.proofs.Common.{Option, Some, None}
use borrow.Author.Tests.{eq-eqb, ne_eqb}
use Rattle.forms.specs.Form as F
use Rattle.forms.specs.Code.{form, Within}
use Rattle.forms.specs.declared.Form.{Form}
use Rattle.kernel.specs.File as File
use Rattle.kernel.specs.File.{Rec, nothing, Kernel}
use Rattle.kernel.specs.Guarantees.{FormSmall}
use Rattle.kernel.specs.Reading.{minus_one}
use Rattle.kernel.specs.Ledger as L
use Rattle.kernel.specs.Derivation as Derivation
use Rattle.parts.specs.declared.RecordTable.{RecordTable}
use Rattle.parts.specs.Tables.{rows}
use Rattle.parts.proofs.Records.{count_is}
use Rattle.kernel.specs.Derivation.{row_held, row_count, hold_rows, stated}
use Rattle.check_ledger.specs.declared.Held.{Held}
use Rattle.check_ledger.specs.View.{held, zeros, no_form}
use Rattle.check_ledger.proofs.Rows.{all_set, all_alike}
use Rattle.check_ledger.proofs.Bounds.{none_within, within_seen, zero_within}
use Rattle.check_ledger.proofs.Loops.{Written, view_more, written_more}
use Rattle.check_rows.proofs.Rows.{drop_take}
use Rattle.check_rows.specs.View.{SmallForms}
use Rattle.check_rows.specs.Changes.{SmallHeld, Stated}

-- ---- one buffer row

module _ (r : Rec) (h : Held) (e : form h.index ≡ File.form r) (q : h.array ≡ r.q) where
  pub states_something : (r.q ≡ minus_one → ⊥) → held (Some h) ≡ row_held r
  unfolding held row_held
  states_something n = (λ i. some (L.held (q i) (e i))) ∙ sym (ap (λ (t : Bool). cond t none (some (L.held r.q (File.form r)))) (ne_eqb r.q minus_one n))

pub states_nothing : (r : Rec) → r.q ≡ minus_one → held None ≡ row_held r
unfolding held row_held
states_nothing r h = sym (ap (λ (t : Bool). cond t none (some (L.held r.q (File.form r)))) (eq-eqb r.q minus_one h))

none_small : SmallHeld None
none_small h e = absurd (cc)

-- a form as small as a record's
pub form_small : {f : Form} {g : F.Form} → form f ≡ g → FormSmall g → Within (2 ^ 20) (2 ^ 20) f
form_small e m = within_seen e (record { abs = m.k_small }) (λ level. record { abs = m.x_small level })

pub held_small : (h : Option Held) (r : Rec) → held h ≡ row_held r → FormSmall (File.form r) → SmallHeld h
unfolding held row_held
held_small None r e m = none_small
held_small (Some h) r e m = by (eqb r.q minus_one) e
  where
    by : (t : Bool) → some (L.held h.array (form h.index)) ≡ cond t none (some (L.held r.q (File.form r))) → SmallHeld (Some h)
    by true e g is = absurd (cc)
    by false e g is = let same : form g.index ≡ File.form r = cc in form_small same m

-- ---- row i of n from record `at` on

module _ (t : RecordTable) (at i : ℕ) {r : Rec} (e : r ≡ get_or (rows t) (at + i) nothing) where
  -- what the first i rows state is written, and what this one does
  pub row_written : {A B : Type 0} {v : A → B} (w : Rec → B) {n : ℕ} {p : List A} (x : A) → at + n ≤ t.part.count → i < n → i < length p → v x ≡ w r
      → Written v (λ i. map w (take i (drop at (rows t)))) n i p → Written v (λ i. map w (take i (drop at (rows t)))) n (i + 1) (set p i x)
  row_written w x there h g s W =
      let rs = rows t in
      written_more W x h g
      (view_more w (drop at rs) i nothing (omega (arith, length-drop at rs, count_is t.file.now t.part))
      ∙ ap (λ y. map w (take i (drop at rs)) ++ y ∷ []) (ap w (get_or-drop at rs i nothing ∙ sym e) ∙ sym s))

  -- its form is small
  pub row_small : SmallForms (rows t) → FormSmall (File.form r)
  row_small s = subst (λ r. FormSmall (File.form r)) (sym e) (s.at_record (at + i))

-- ---- rows whose forms are small

pub position_put : (l : List Form) (q : ℕ) (f : Form) → Within (2 ^ 20) (2 ^ 20) f → ((q : ℕ) → Within (2 ^ 20) (2 ^ 20) (get_or l q no_form)) → (j : ℕ) → Within (2 ^ 20) (2 ^ 20) (get_or (set l q f) j no_form)
position_put l q f w h = all_set (Within (2 ^ 20) (2 ^ 20)) l q f no_form none_within h w

pub buffer_put : (l : List (Option Held)) (b : ℕ) (h : Option Held) → SmallHeld h → ((b : ℕ) → SmallHeld (get_or l b None)) → (j : ℕ) → SmallHeld (get_or (set l b h) j None)
buffer_put l b h w a = all_set SmallHeld l b h None none_small a w

-- ---- all rows of a for

module _ (K : Kernel) (c : Derivation.Place) (rs : List Rec) (rule a b : ℕ) (d : K.derivation ≡ rs) (u : length K.arrays ≡ a) (v : K.buffers ≡ b) (w : c.rule ≡ rule) where
  held_rows : hold_rows K c ≡ take (a + b) (drop (suc rule) rs)
  unfolding hold_rows row_count
  held_rows = λ i. take (u i + v i) (drop (suc (w i)) (d i))

  pub stated_rows : record { positions = map File.form (take a (drop (rule + 1) rs)); buffers = map row_held (take b (drop (rule + 1 + a) rs)) } ≡ stated K (hold_rows K c)
  unfolding stated
  stated_rows = sym (λ i. record { positions = map File.form (first i); buffers = map row_held (second i) })
    where
      next : suc rule ≡ rule + 1
      next = sym (add-one rule)

      after : suc rule + a ≡ rule + 1 + a
      after = omega arith

      first : take (length K.arrays) (hold_rows K c) ≡ take a (drop (rule + 1) rs)
      first = (λ i. take (u i) (held_rows i)) ∙ take-take a (a + b) (drop (suc rule) rs) (omega arith) ∙ ap (λ n. take a (drop n rs)) next

      second : drop (length K.arrays) (hold_rows K c) ≡ take b (drop (rule + 1 + a) rs)
      second = (λ i. drop (u i) (held_rows i)) ∙ drop_take a b (drop (suc rule) rs) ∙ ap (take b) (drop-drop a (suc rule) rs ∙ ap (λ n. drop n rs) after)

-- ---- a ledger to state them into

pub zeros_stated : Stated zeros
zeros_stated = record {
  whole = (refl, refl);
  at_position = all_alike (Within (2 ^ 20) (2 ^ 20)) 8 _ no_form none_within (zero_within refl);
  at_buffer = all_alike SmallHeld 16 None None none_small none_small;
}
