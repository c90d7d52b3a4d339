-- A byte area as a row of words, as code reads and changes it; rows of numbers below a limit.
use Rattle.std.specs.Prelude.{ℕ, ◌+◌, ◌*◌, ◌/◌, ◌%◌, ◌^◌, ◌<◌, cond, List, [], ◌∷◌, length, nat_lt, slice_index, slice_set}
use Rattle.numbers.specs.Words.{words}

-- word i of an area, and 0 past its last
unfoldable pub word : List ℕ → (i : ℕ) → ℕ
word area i = slice_index (words area) i

-- word i of an area changed to w; nothing past its last
unfoldable pub put_word : List ℕ → (i w : ℕ) → List ℕ
put_word area i w =
    cond (nat_lt i (length area / 4))
    (slice_set (slice_set (slice_set (slice_set area (i * 4) (w % 256)) (i * 4 + 1) (w / 2 ^ 8 % 256)) (i * 4 + 2) (w / 2 ^ 16 % 256)) (i * 4 + 3) (w / 2 ^ 24 % 256))
    area

-- every number of a row is below n
pub data AllBelow (n : ℕ) : List ℕ → Type 0 where
  none_there : AllBelow n []
  below_too : {x : ℕ} {l : List ℕ} → x < n → AllBelow n l → AllBelow n (x ∷ l)
