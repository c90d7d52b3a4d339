-- Signed numbers with a bound, so that code can say when 64 bits are enough.
use Rattle.std.specs.Prelude.{ℕ, ◌≤◌, ℤ, unsigned_abs}

-- within ±n; a record, so that both can be inferred from a fact
pub record Small (n : ℕ) (z : ℤ) : Type 0 where
  pub abs : unsigned_abs z ≤ n
