-- The elses and ends that a search for a block's end passes over.
use Rattle.std.specs.Prelude.{ℕ, ◌+◌, ◌-◌, cond, eqb, leb}

-- how many are to be passed over, after a record of this code
unfoldable pub depth_after : (depth code : ℕ) → ℕ
depth_after depth code = cond (eqb code 8) (depth + 1) (cond (eqb code 9) (depth + 2) (cond (leb 10 code) (depth - 1) depth))
