-- What a text shows.
use Rattle.std.specs.Prelude.{ℕ, ◌≡◌, List, ◌++◌, length, replicate}
use Rattle.line.specs.declared.Text.{Text}

-- its bytes end with t, and zeros stand before it
pub record Shows (l : Text) (t : List ℕ) : Type 0 where
  pub bytes : l.bytes ≡ replicate l.from 0 ++ t
  pub long : length l.bytes ≡ 32
