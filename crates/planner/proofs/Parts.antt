-- The parts of a word: a last part that is 0 need not be given, and each part is read back as the number that was given.
use Prim.Native.Nat.{ℕ, zero, suc, ◌+◌, ◌*◌, ◌/◌, ◌%◌, ◌<◌}
use mathlib.Core.Path.{◌≡◌, refl, ap, ◌∙◌}
use mathlib.Core.List.{List, [], ◌∷◌, ◌++◌}
use native.Mathlib.Omega.{arith}
use lib.ListN.{get_or, length}
use Rattle.numbers.specs.Areas.{AllBelow, none_there, below_too}
use Rattle.planner.specs.Words.{packed, Tells}

-- ---- a last part that is 0

packed_last : (ns : List ℕ) → packed (ns ++ 0 ∷ []) ≡ packed ns
unfolding packed
packed_last [] = refl
packed_last (n ∷ ns) = ap (λ w. n + 65536 * w) (packed_last ns)

below_before : (ns : List ℕ) → AllBelow 65536 (ns ++ 0 ∷ []) → AllBelow 65536 ns
below_before [] a = none_there
below_before (n ∷ ns) (below_too h a) = below_too h (below_before ns a)

pub tells_before : (word : ℕ) (ns : List ℕ) → Tells word (ns ++ 0 ∷ []) → Tells word ns
tells_before word ns (e, a) = (e ∙ packed_last ns, below_before ns a)

-- ---- reading back

-- part k of a word, as the header's readers find it: the word moved down by 16 bits k times, then its lowest 16 bits
unfoldable pub part : (k word : ℕ) → ℕ
part zero word = word % 65536
part (suc k) word = part k (word / 65536)

none_left : (k : ℕ) → part k 0 ≡ 0
unfolding part
none_left zero = refl
none_left (suc k) = none_left k

pub read_back : (k word : ℕ) (ns : List ℕ) → Tells word ns → part k word ≡ get_or ns k 0
unfolding packed part
read_back k word [] (e, a) = ap (part k) e ∙ none_left k
read_back zero word (n ∷ ns) (e, below_too h a) = omega (arith, e, h)
read_back (suc k) word (n ∷ ns) (e, below_too h a) = read_back k (word / 65536) ns (omega (arith, e, h), a)

-- ---- four parts

pub four : (ns : List ℕ) → length ns ≡ 4 → ((i : ℕ) → get_or ns i 0 < 65536) → Tells (get_or ns 0 0 + 65536 * (get_or ns 1 0 + 65536 * (get_or ns 2 0 + 65536 * get_or ns 3 0))) ns
unfolding packed
four [] l h = absurd (omega (arith, l))
four (a ∷ []) l h = absurd (omega (arith, l))
four (a ∷ b ∷ []) l h = absurd (omega (arith, l))
four (a ∷ b ∷ c ∷ []) l h = absurd (omega (arith, l))
four (a ∷ b ∷ c ∷ d ∷ []) l h = (omega arith, below_too (h 0) (below_too (h 1) (below_too (h 2) (below_too (h 3) none_there))))
four (a ∷ b ∷ c ∷ d ∷ e ∷ ns) l h = absurd (omega (arith, l))
