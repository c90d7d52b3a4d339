-- Words at their edges, computed.
use Rattle.std.proofs.Common.{◌≡◌, ℕ, ◌-◌, ◌^◌, [], ◌∷◌, map, pos, negsuc, refl}
use Rattle.numbers.specs.Words.{signed, low32, words, bytes, plus, minus, times, over}
use Rattle.numbers.proofs.Open.{numbers_open}

-- the word of −n
neg : ℕ → ℕ
neg n = 2 ^ 32 - n

-- the largest, the least and −1 as signed numbers, and the words of numbers in and out of range
signs : map signed (0 ∷ 2147483647 ∷ 2147483648 ∷ 4294967295 ∷ []) ≡ pos 0 ∷ pos 2147483647 ∷ negsuc 2147483647 ∷ negsuc 0 ∷ []
unfolding numbers_open
signs = refl

low_words : map low32 (pos 4294967299 ∷ negsuc 0 ∷ negsuc 4294967295 ∷ negsuc 4294967296 ∷ []) ≡ 3 ∷ 4294967295 ∷ 0 ∷ 4294967295 ∷ []
unfolding numbers_open
low_words = refl

-- sums, differences and products wrap; division goes toward zero, and the least number divided by −1 is the least number
sums : plus 4294967295 2 ∷ minus 1 2 ∷ minus 5 0 ∷ times 65536 65537 ∷ times 4294967295 4294967295 ∷ [] ≡ 1 ∷ 4294967295 ∷ 5 ∷ 65536 ∷ 1 ∷ []
unfolding numbers_open
sums = refl

quotients : over (neg 7) 2 ∷ over 7 (neg 2) ∷ over (neg 7) (neg 2) ∷ over 2147483648 4294967295 ∷ [] ≡ neg 3 ∷ neg 3 ∷ 3 ∷ 2147483648 ∷ []
unfolding numbers_open neg
quotients = refl

-- low byte first, and an odd tail makes no word
in_bytes : bytes (67305985 ∷ []) ≡ 1 ∷ 2 ∷ 3 ∷ 4 ∷ []
unfolding numbers_open
in_bytes = refl

in_words : words (1 ∷ 2 ∷ 3 ∷ 4 ∷ 255 ∷ 255 ∷ 255 ∷ 255 ∷ 9 ∷ []) ≡ 67305985 ∷ 4294967295 ∷ []
unfolding numbers_open
in_words = refl
