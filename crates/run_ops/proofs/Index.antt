-- Where a cell is: what the code's test says of it, and what the machine makes of it.
use Rattle.std.specs.Prelude.{Ok, Err}
use Prim.Native.Nat.{ℕ, ◌+◌, ◌<◌}
use mathlib.Core.Path.{◌≡◌, refl, sym, ap, subst, ◌∙◌}
use mathlib.Core.Bool.{Bool, true, false}
use lib.Dec.{T}
use lib.IntN.{ℤ, pos, nat_abs}
use lib.Signed.{non_neg}
use Rattle.numbers.specs.Result.{ok, stop, need}
use Rattle.numbers.specs.Words.{inside}
use Rattle.numbers.proofs.Tests.{inside_index}
use Rattle.kernel.specs.declared.refusals.Reason.{Reason}
use Rattle.kernel.specs.Named.{reason}
use Rattle.kernel.specs.Machine.{Layout, cell_number}
use Rattle.run_ops.specs.States.{worked}
use Rattle.run_ops.specs.Layout.{cell_at}
use Rattle.run_ops.proofs.States.{goes_on, stops}

pub inside_small : (n : ℕ) (z : ℤ) → inside n z ≡ true → T (non_neg z) × (nat_abs z < n)
inside_small n z h =
    let (i, e, l) = inside_index n z h in
    subst (λ z. T (non_neg z) × (nat_abs z < n)) (sym e) (tt, l)

-- the number, or the reason to stick
module _ (k n : ℕ) (z : ℤ) where
  numbered : inside n z ≡ true → cell_number k n z ≡ ok (nat_abs z)
  unfolding cell_number need
  numbered h = goes_on _ (ap (need k) h) refl

  not_numbered : inside n z ≡ false → cell_number k n z ≡ stop k
  unfolding cell_number need
  not_numbered h = stops _ (ap (need k) h)

module _ (e : Layout) (q : ℕ) (why : Reason) (z : ℤ) where
  pub cell_there : inside (e.size q) z ≡ true → worked (Ok (e.base q + nat_abs z)) ≡ cell_at e q (reason why) z
  unfolding worked cell_at
  cell_there h = sym (goes_on _ (numbered (reason why) (e.size q) z h) refl)

  pub cell_past : inside (e.size q) z ≡ false → worked (Err why) ≡ cell_at e q (reason why) z
  unfolding worked cell_at
  cell_past h = sym (stops _ (not_numbered (reason why) (e.size q) z h))

-- and back
module _ (e : Layout) (q k : ℕ) (z : ℤ) where
  pub record Found (at : ℕ) : Type 0 where
    pub index : ℕ
    pub is : z ≡ pos index
    pub below : index < e.size q
    pub number : cell_number k (e.size q) z ≡ ok index
    pub there : at ≡ e.base q + index

  apart : {A : Type 0} {x : A} → stop k ≡ ok x → ⊥
  apart e = cc

  pub found : (at : ℕ) → cell_at e q k z ≡ ok at → Found at
  unfolding cell_at
  found at h = by (inside (e.size q) z) refl
    where
      by : (t : Bool) → inside (e.size q) z ≡ t → Found at
      by true t =
          let (i, is, l) = inside_index (e.size q) z t in
          let number : cell_number k (e.size q) z ≡ ok i = numbered k (e.size q) z t ∙ ap (λ z. ok (nat_abs z)) is in
          let same : ok (e.base q + i) ≡ ok at = sym (goes_on (λ i. ok (e.base q + i)) number refl) ∙ h in
          let there : at ≡ e.base q + i = cc in
          record { index = i; is = is; below = l; number = number; there = there }
      by false t = absurd (apart (sym (stops (λ i. ok (e.base q + i)) (not_numbered k (e.size q) z t)) ∙ h))

  pub not_found : (j : ℕ) → cell_at e q k z ≡ stop j → cell_number k (e.size q) z ≡ stop j
  unfolding cell_at
  not_found j h = by (inside (e.size q) z) refl
    where
      by : (t : Bool) → inside (e.size q) z ≡ t → cell_number k (e.size q) z ≡ stop j
      by true t = absurd (let no : ok (e.base q + nat_abs z) ≡ stop j = sym (goes_on (λ i. ok (e.base q + i)) (numbered k (e.size q) z t) refl) ∙ h in cc)
      by false t =
          let no = not_numbered k (e.size q) z t in
          let same : stop k ≡ stop j = sym (stops (λ i. ok (e.base q + i)) no) ∙ h in
          no ∙ same
