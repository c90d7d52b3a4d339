-- Numbers of a file, registers and memory cells are 32-bit words: naturals below 2³², in two's complement.
use Rattle.std.specs.Prelude.{ℕ, suc, ◌+◌, ◌-◌, ◌*◌, ◌/◌, ◌%◌, ◌^◌, Bool, false, cond, ◌&&◌, List, [], ◌∷◌, ℤ, pos, negsuc, ◌==◌, int_div, nat_le, nat_lt}

-- "signed 32-bit numbers": a word as a signed number
unfoldable pub signed : ℕ → ℤ
signed w = cond (nat_lt w (2 ^ 31)) (pos w) (negsuc (2 ^ 32 - suc w))

-- "its value's low 32 bits": the word of a number
unfoldable pub low32 : ℤ → ℕ
low32 (pos n) = n % 2 ^ 32
low32 (negsuc n) = 2 ^ 32 - suc (n % 2 ^ 32)

-- "low byte first": the words of a row of bytes (fewer than four at its end make no word), and back
unfoldable pub words : List ℕ → List ℕ
words [] = []
words (a ∷ []) = []
words (a ∷ b ∷ []) = []
words (a ∷ b ∷ c ∷ []) = []
words (a ∷ b ∷ c ∷ d ∷ rest) = (a + b * 2 ^ 8 + c * 2 ^ 16 + d * 2 ^ 24) ∷ words rest

unfoldable pub bytes : List ℕ → List ℕ
bytes [] = []
bytes (w ∷ ws) = w % 256 ∷ w / 2 ^ 8 % 256 ∷ w / 2 ^ 16 % 256 ∷ w / 2 ^ 24 % 256 ∷ bytes ws

-- "Register sums, differences and products wrap at 32 bits"
unfoldable pub plus : ℕ → ℕ → ℕ
plus a b = (a + b) % 2 ^ 32

unfoldable pub minus : ℕ → ℕ → ℕ
minus a b = (a + (2 ^ 32 - b)) % 2 ^ 32

unfoldable pub times : ℕ → ℕ → ℕ
times a b = a * b % 2 ^ 32

-- "Division goes toward zero; the least number divided by −1 gives the least number"
unfoldable pub over : ℕ → ℕ → ℕ
over a b = low32 (int_div (signed a) (signed b))

-- a ≤ n ≤ b
unfoldable pub between : ℕ → ℕ → ℕ → Bool
between a b n = nat_le a n && nat_le n b

-- z is within ±n
unfoldable pub within : ℕ → ℤ → Bool
within n (pos a) = nat_le a n
within n (negsuc a) = nat_lt a n

-- z is one of 0 to n − 1
unfoldable pub inside : ℕ → ℤ → Bool
inside n (pos i) = nat_lt i n
inside n (negsuc i) = false

-- two signed numbers are equal
unfoldable pub equal : ℤ → ℤ → Bool
equal (pos a) (pos b) = a == b
equal (pos a) (negsuc b) = false
equal (negsuc a) (pos b) = false
equal (negsuc a) (negsuc b) = a == b
