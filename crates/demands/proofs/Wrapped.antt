-- Rows of numbers as bytes and back. Bytes tell a number modulo 2³², and putting back goes by place alone: so nothing need be known of how large the
-- numbers are that a run leaves.
use Prim.Native.Nat.{ℕ, zero, suc, ◌+◌, ◌*◌, ◌/◌, ◌%◌, ◌<◌}
use mathlib.Core.Path.{◌≡◌, refl, sym, ap, ◌∙◌}
use mathlib.Core.List.{List, [], ◌∷◌, map}
use native.Mathlib.Omega.{arith}
use lib.ListN.{length, get_or, set, replicate, length-map}
use Rattle.numbers.specs.Words.{words, bytes}
use Rattle.numbers.specs.Areas.{AllBelow, none_there, below_too}
use Rattle.numbers.proofs.Areas.{words_bytes}
use Rattle.kernel.specs.File.{Kernel, input, output, length_of, count_of}
use Rattle.kernel.specs.Memory.{total, cells, laid_out, placed, put_back}
use Rattle.kernel.proofs.Orders.{cells_length}

-- ---- numbers below a bound

pub words_below : {m : List ℕ} → AllBelow 256 m → AllBelow 4294967296 (words m)
unfolding words
words_below none_there = none_there
words_below (below_too p none_there) = none_there
words_below (below_too p (below_too q none_there)) = none_there
words_below (below_too p (below_too q (below_too r none_there))) = none_there
words_below (below_too {x = a} p (below_too {x = b} q (below_too {x = c} r (below_too {x = d} s h)))) = below_too (word_below a b c d p q r s) (words_below h)
  where
    word_below : (a b c d : ℕ) → a < 256 → b < 256 → c < 256 → d < 256 → a + b * 256 + c * 65536 + d * 16777216 < 4294967296
    word_below a b c d p q r s = omega arith

picked_below : {n : ℕ} {m : List ℕ} → 0 < n → AllBelow n m → (c : ℕ) → get_or m c 0 < n
picked_below z none_there c = z
picked_below z (below_too p h) zero = p
picked_below z (below_too p h) (suc c) = picked_below z h c

all_picked_below : {n : ℕ} {m : List ℕ} → 0 < n → AllBelow n m → (cs : List ℕ) → AllBelow n (map (λ c. get_or m c 0) cs)
all_picked_below z h [] = none_there
all_picked_below z h (c ∷ cs) = below_too (picked_below z h c) (all_picked_below z h cs)

-- laying out picks words, so its bytes are read as what it laid
pub laid_read : (K : Kernel) {ws : List ℕ} → AllBelow 4294967296 ws → words (bytes (laid_out K ws)) ≡ laid_out K ws
unfolding laid_out
laid_read K h = words_bytes (all_picked_below (omega arith) h (cells input 0 K.arrays))

pub laid_length : (K : Kernel) (ws : List ℕ) → length (laid_out K ws) ≡ total input count_of K
unfolding laid_out total
laid_length K ws = length-map (cells input 0 K.arrays) (λ c. get_or ws c 0) ∙ cells_length input 0 K.arrays

-- ---- modulo 2³²

wrapped : ℕ → ℕ
wrapped w = w % 4294967296

same_bytes : (w : ℕ)
    → (w % 4294967296 % 256 ≡ w % 256) × (w % 4294967296 / 256 % 256 ≡ w / 256 % 256)
    × (w % 4294967296 / 65536 % 256 ≡ w / 65536 % 256) × (w % 4294967296 / 16777216 % 256 ≡ w / 16777216 % 256)
same_bytes w = (omega arith, omega arith, omega arith, omega arith)

bytes_wrapped : (ws : List ℕ) → bytes (map wrapped ws) ≡ bytes ws
unfolding bytes wrapped
bytes_wrapped [] = refl
bytes_wrapped (w ∷ ws) =
    let (a, b, c, d) = same_bytes w in
    λ i. a i ∷ b i ∷ c i ∷ d i ∷ bytes_wrapped ws i

wrapped_below : (ws : List ℕ) → AllBelow 4294967296 (map wrapped ws)
unfolding wrapped
wrapped_below [] = none_there
wrapped_below (w ∷ ws) = below_too {x = w % 4294967296} (omega arith) (wrapped_below ws)

words_of_bytes : (ws : List ℕ) → words (bytes ws) ≡ map wrapped ws
words_of_bytes ws = ap words (sym (bytes_wrapped ws)) ∙ words_bytes (wrapped_below ws)

-- ---- putting back

module _ (f : ℕ → ℕ) where
  set_map : (m : List ℕ) (c w : ℕ) → set (map f m) c (f w) ≡ map f (set m c w)
  set_map [] c w = refl
  set_map (x ∷ m) zero w = refl
  set_map (x ∷ m) (suc c) w = ap (λ l. f x ∷ l) (set_map m c w)

  placed_map : (cs ws m : List ℕ) → placed cs (map f ws) (map f m) ≡ map f (placed cs ws m)
  unfolding placed
  placed_map [] ws m = refl
  placed_map (c ∷ cs) [] m = refl
  placed_map (c ∷ cs) (w ∷ ws) m = ap (placed cs (map f ws)) (set_map m c w) ∙ placed_map cs ws (set m c w)

  zeros_map : f 0 ≡ 0 → (n : ℕ) → replicate n 0 ≡ map f (replicate n 0)
  zeros_map z zero = refl
  zeros_map z (suc n) = λ i. sym z i ∷ zeros_map z n i

  put_back_map : f 0 ≡ 0 → (K : Kernel) (ws : List ℕ) → put_back K (map f ws) ≡ map f (put_back K ws)
  unfolding put_back
  put_back_map z K ws =
      ap (placed (cells output 0 K.arrays) (map f ws)) (zeros_map z (total output length_of K))
      ∙ placed_map (cells output 0 K.arrays) ws (replicate (total output length_of K) 0)

-- what is put back from bytes has the bytes of what is put back from the numbers themselves
pub put_back_read : (K : Kernel) (ws : List ℕ) → bytes (put_back K (words (bytes ws))) ≡ bytes (put_back K ws)
put_back_read K ws =
    ap (λ l. bytes (put_back K l)) (words_of_bytes ws) ∙ ap bytes (put_back_map wrapped (unfold wrapped in refl) K ws) ∙ bytes_wrapped (put_back K ws)
