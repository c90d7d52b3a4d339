-- The decimal digits of a number, one after another from the last; and how many are left.
use Prim.Native.Nat.{ℕ, zero, suc, ◌+◌, ◌-◌, ◌/◌, ◌%◌, ◌^◌, ◌≤◌, ◌<◌}
use mathlib.Core.Path.{◌≡◌, subst, ◌∙◌}
use mathlib.Core.List.{List, ◌∷◌}
use native.Mathlib.Omega.{arith}
use native.Mathlib.Nat.{pow-succ'}
use Rattle.kernel.specs.Answers.{decimal}
use Rattle.kernel.proofs.Digits.{last_digit, enough}

pub next_digit : (n : ℕ) (t : List ℕ) → 10 ≤ n → decimal (suc n) n t ≡ decimal (suc (n / 10)) (n / 10) ((48 + n % 10) ∷ t)
next_digit n t h = last_digit n n t h ∙ enough n (suc (n / 10)) (n / 10) ((48 + n % 10) ∷ t) (omega arith) (omega arith)

-- room for the digits that are left: a text that began with five bytes to spare before from₀, and now begins at from
pub record Room (rest from₀ from : ℕ) : Type 0 where
  pub most : ℕ
  pub few : rest < 10 ^ suc most
  pub spare : from₀ + suc most ≤ from + 5

pub room_begins : (n from : ℕ) → n < 65536 → Room n from from
room_begins n from h = record { most = 4; few = omega arith; spare = omega arith }

falls : (k n : ℕ) → 10 ≤ n → n < 10 ^ suc k → (1 ≤ k) × (n / 10 < 10 ^ k)
falls zero n h l = absurd (omega arith)
falls (suc k) n h l = let p = pow-succ' 10 (suc k) in (omega arith, omega arith)

-- a digit and a byte less
pub room_less : (n from₀ from : ℕ) → 10 ≤ n → Room n from₀ (from + 1) → Room (n / 10) from₀ from
room_less n from₀ from h r =
    let f = falls r.most n h r.few in
    let e : r.most ≡ suc (r.most - 1) = omega (arith, f.0) in record {
      most = r.most - 1;
      few = subst (λ k. n / 10 < 10 ^ k) e f.1;
      spare = omega (arith, f.0, r.spare);
    }
