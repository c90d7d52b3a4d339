-- Bounds: wider ones, and those of a form one more and of a ledger after a step.
use Prim.Native.Nat.{ℕ, ◌+◌, ◌^◌, ◌≤◌}
use mathlib.Core.Path.{◌≡◌, refl, sym, ap, subst, ◌∙◌}
use mathlib.Core.List.{List}
use native.Mathlib.Omega.{arith}
use lib.Dec.{le→leb}
use lib.ListN.{length, get_or, set, length-set}
use lib.IntN.{pos}
use Rattle.std.proofs.Common.{Option}
use Rattle.numbers.specs.Bounds.{Small}
use Rattle.numbers.proofs.Signs.{wider, small_add, small_zero}
use Rattle.forms.specs.Form as F
use Rattle.forms.specs.Code.{form, Within}
use Rattle.forms.specs.declared.Form.{Form}
use Rattle.check_ledger.specs.declared.Held.{Held}
use Rattle.check_ledger.specs.declared.Ledger.{Ledger}
use Rattle.check_ledger.specs.View.{zeros, no_form, Bounded}
use Rattle.check_ledger.proofs.Rows.{all_same, all_set, all_alike}

-- ---- forms

pub within_wider : {K X : ℕ} {f : Form} → Within K X f → {L Y : ℕ} → K ≤ L → X ≤ Y → Within L Y f
within_wider {K} {X} h {L} {Y} k x = record { k_small = wider h.k_small (le→leb K L k); x_small = λ level. wider (h.x_small level) (le→leb X Y x) }

pub none_within : {K X : ℕ} → Within K X no_form
none_within = record { k_small = small_zero; x_small = λ level. small_zero }

-- the code's form has the bounds of the form that it is seen as
pub within_seen : {K X : ℕ} {f : Form} {g : F.Form} → form f ≡ g → Small K g.k → ((level : ℕ) → Small X (F.coefficient level g)) → Within K X f
unfolding F.coefficient
within_seen {K} {X} e k x =
    record {
      k_small = subst (Small K) (sym (ap (λ g. g.k) e)) k;
      x_small = λ level. subst (Small X) (sym (ap (λ g. get_or g.x level (pos 0)) e)) (x level);
    }

pub zero_within : {K X : ℕ} {f : Form} → form f ≡ F.constant (pos 0) → Within K X f
unfolding F.coefficient
zero_within {X = X} e = within_seen e small_zero (all_alike (Small X) 4 (pos 0) (pos 0) small_zero small_zero)

pub plus_one_within : {K X : ℕ} {f g : Form} → form g ≡ F.plus_one (form f) → Within K X f → Within (K + 1) X g
unfolding F.plus_one F.coefficient
plus_one_within e h = within_seen e (small_add h.k_small one) h.x_small
  where
    one : Small 1 (pos 1)
    one = record { abs = omega arith }

-- ---- ledgers

pub zeros_bounded : Bounded 0 zeros
zeros_bounded = record { whole = refl; at_position = all_alike (Within (2 ^ 37 + 0) (2 ^ 20)) 8 _ no_form none_within (zero_within refl) }

module _ {n : ℕ} {l : Ledger} (h : Bounded n l) where
  -- enough for the next step
  pub room : n ≤ 4096 → (q : ℕ) → Within (2 ^ 50) (2 ^ 33) (get_or l.positions q no_form)
  room m q = within_wider (h.at_position q) (omega arith) (omega arith)

  pub bounded_wider : {m : ℕ} → n ≤ m → Bounded m l
  bounded_wider k = record { whole = h.whole; at_position = λ q. within_wider (h.at_position q) (omega (arith, k)) (omega arith) }

  -- a ledger with the same positions
  pub bounded_same : {r : Ledger} → r.positions ≡ l.positions → Bounded n r
  bounded_same e = record { whole = ap length e ∙ h.whole; at_position = all_same (Within (2 ^ 37 + n) (2 ^ 20)) no_form e h.at_position }

  -- with another position
  pub put_bounded : (q : ℕ) {f : Form} (hs : List (Option Held)) → Within (2 ^ 37 + n) (2 ^ 20) f → Bounded n (record { positions = set l.positions q f; buffers = hs })
  put_bounded q {f} hs w = record { whole = simp length-set h.whole; at_position = all_set (Within (2 ^ 37 + n) (2 ^ 20)) l.positions q f no_form none_within h.at_position w }

-- with a position one more
pub passed_bounded : {n : ℕ} {l : Ledger} (q : ℕ) {f : Form} (hs : List (Option Held)) → Bounded n l → form f ≡ F.plus_one (form (get_or l.positions q no_form)) → Bounded (n + 1) (record { positions = set l.positions q f; buffers = hs })
passed_bounded q hs h e = put_bounded (bounded_wider h (omega arith)) q hs (within_wider (plus_one_within e (h.at_position q)) (omega arith) (omega arith))
