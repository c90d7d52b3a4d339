-- Rows of words in byte areas: how many there are, which one stands where, and what changing one does. Bytes below 256 in rows of a multiple
-- of four and words below 2³² are one to one.
use Rattle.std.proofs.Common.{◌≡◌, ℕ, zero, suc, ◌+◌, ◌*◌, ◌/◌, ◌%◌, ◌<◌, ◌≤◌, Bool, cond, List, [], ◌∷◌, ◌++◌, length, get_or, set, replicate, sym, refl, ap, ◌∙◌, ap₂, arith, length-append, le-ltb, lt-ltb}
use native.Mathlib.Nat.{div-div-eq-div-mul}
use native.Mathlib.Decide.{dec_lt}
use native.Mathlib.Numerals.{towards_suc}
use lib.ListN.{get_or-eq_default}
use lib.Seq.{set_out}
use Rattle.numbers.specs.Words.{words, bytes}
use Rattle.numbers.specs.Areas.{AllBelow, none_there, below_too, word, put_word}

pub words_length : (m : List ℕ) → length (words m) ≡ length m / 4
unfolding words
words_length [] = refl
words_length (a ∷ []) = refl
words_length (a ∷ b ∷ []) = refl
words_length (a ∷ b ∷ c ∷ []) = refl
words_length (a ∷ b ∷ c ∷ d ∷ m) = ap suc (words_length m) ∙ omega arith

-- 4 × i, by recursion on i
four : ℕ → ℕ
four zero = zero
four (suc i) = suc (suc (suc (suc (four i))))

four_is : (i : ℕ) → i * 4 ≡ four i
unfolding four
four_is zero = refl
four_is (suc i) = omega (arith, four_is i)

at_four : (m : List ℕ) (i : ℕ) → four i + 4 ≤ length m
    → get_or m (four i) 0 + get_or m (suc (four i)) 0 * 256 + get_or m (suc (suc (four i))) 0 * 65536 + get_or m (suc (suc (suc (four i)))) 0 * 16777216 ≡ get_or (words m) i 0
unfolding words four
at_four [] i h = absurd (omega arith)
at_four (a ∷ []) i h = absurd (omega arith)
at_four (a ∷ b ∷ []) i h = absurd (omega arith)
at_four (a ∷ b ∷ c ∷ []) i h = absurd (omega arith)
at_four (a ∷ b ∷ c ∷ d ∷ m) zero h = refl
at_four (a ∷ b ∷ c ∷ d ∷ m) (suc i) h = at_four m i (omega arith)

-- the four bytes of word i
pub word_at : (m : List ℕ) (i : ℕ) → i * 4 + 4 ≤ length m
    → get_or m (i * 4) 0 + get_or m (i * 4 + 1) 0 * 256 + get_or m (i * 4 + 2) 0 * 65536 + get_or m (i * 4 + 3) 0 * 16777216 ≡ word m i
unfolding word
word_at m i h = simp (four_is, towards_suc) (at_four m i (omega (arith, four_is i)))

pub word_past : (m : List ℕ) (i : ℕ) → length m / 4 ≤ i → word m i ≡ 0
unfolding word
word_past m i h = get_or-eq_default (words m) 0 {n = i} (omega (arith, words_length m))

-- ---- one word changed

set_four : (m : List ℕ) (i x y z u : ℕ)
    → words (set (set (set (set m (four i) x) (suc (four i)) y) (suc (suc (four i))) z) (suc (suc (suc (four i)))) u) ≡ set (words m) i (x + y * 256 + z * 65536 + u * 16777216)
unfolding words four
set_four [] zero x y z u = refl
set_four [] (suc i) x y z u = refl
set_four (a ∷ []) zero x y z u = refl
set_four (a ∷ []) (suc i) x y z u = refl
set_four (a ∷ b ∷ []) zero x y z u = refl
set_four (a ∷ b ∷ []) (suc i) x y z u = refl
set_four (a ∷ b ∷ c ∷ []) zero x y z u = refl
set_four (a ∷ b ∷ c ∷ []) (suc i) x y z u = refl
set_four (a ∷ b ∷ c ∷ d ∷ m) zero x y z u = refl
set_four (a ∷ b ∷ c ∷ d ∷ m) (suc i) x y z u = ap (λ l. (a + b * 256 + c * 65536 + d * 16777216) ∷ l) (set_four m i x y z u)

-- a number and what is left of it, three times over
digits : (w a b c : ℕ) → a ≡ w / 256 → b ≡ a / 256 → c ≡ b / 256 → c < 256 → w % 256 + a % 256 * 256 + b % 256 * 65536 + c % 256 * 16777216 ≡ w
digits w a b c p q r h =
    let last : c % 256 ≡ c = omega arith in
    let third : b % 256 + c * 256 ≡ b = omega arith in
    let second : a % 256 + b * 256 ≡ a = omega arith in
    let first : w % 256 + a * 256 ≡ w = omega arith in
    omega arith

four_bytes : (w : ℕ) → w < 4294967296 → w % 256 + w / 256 % 256 * 256 + w / 65536 % 256 * 65536 + w / 16777216 % 256 * 16777216 ≡ w
four_bytes w h =
    digits w (w / 256) (w / 65536) (w / 16777216) refl (sym (div-div-eq-div-mul w 256 256)) (sym (div-div-eq-div-mul w 65536 256)) (omega arith)

words_set : (m : List ℕ) (i w : ℕ) → w < 4294967296
    → words (set (set (set (set m (i * 4) (w % 256)) (i * 4 + 1) (w / 256 % 256)) (i * 4 + 2) (w / 65536 % 256)) (i * 4 + 3) (w / 16777216 % 256)) ≡ set (words m) i w
words_set m i w h = simp (four_is, towards_suc) (set_four m i _ _ _ _ ∙ ap (λ v. set (words m) i v) (four_bytes w h))

-- what a change does where there is such a word, and where there is none
pub put_there : (m : List ℕ) (i w : ℕ) → i < length m / 4
    → put_word m i w ≡ set (set (set (set m (i * 4) (w % 256)) (i * 4 + 1) (w / 256 % 256)) (i * 4 + 2) (w / 65536 % 256)) (i * 4 + 3) (w / 16777216 % 256)
unfolding put_word
put_there m i w h = ap (λ (t : Bool). cond t (set (set (set (set m (i * 4) (w % 256)) (i * 4 + 1) (w / 256 % 256)) (i * 4 + 2) (w / 65536 % 256)) (i * 4 + 3) (w / 16777216 % 256)) m) (lt-ltb i (length m / 4) h)

pub put_past : (m : List ℕ) (i w : ℕ) → length m / 4 ≤ i → put_word m i w ≡ m
unfolding put_word
put_past m i w h = ap (λ (t : Bool). cond t (set (set (set (set m (i * 4) (w % 256)) (i * 4 + 1) (w / 256 % 256)) (i * 4 + 2) (w / 65536 % 256)) (i * 4 + 3) (w / 16777216 % 256)) m) (le-ltb i (length m / 4) h)

pub words_put : (m : List ℕ) (i w : ℕ) → w < 4294967296 → words (put_word m i w) ≡ set (words m) i w
words_put m i w h = by (dec_lt i (length m / 4))
  where
    by : Dec (i < length m / 4) → words (put_word m i w) ≡ set (words m) i w
    by (yes l) = ap words (put_there m i w l) ∙ words_set m i w h
    by (no n) = ap words (put_past m i w (omega arith)) ∙ sym (set_out (words m) i w (omega (arith, words_length m)))

-- ---- bytes and words, one to one

pub words_bytes : {ws : List ℕ} → AllBelow 4294967296 ws → words (bytes ws) ≡ ws
unfolding words bytes
words_bytes none_there = refl
words_bytes (below_too {x} h a) = ap₂ ◌∷◌ (four_bytes x h) (words_bytes a)

byte_of : (a b c d : ℕ) → a < 256 → b < 256 → c < 256 → d < 256
    → (a ≡ (a + b * 256 + c * 65536 + d * 16777216) % 256) × (b ≡ (a + b * 256 + c * 65536 + d * 16777216) / 256 % 256) × (c ≡ (a + b * 256 + c * 65536 + d * 16777216) / 65536 % 256) × (d ≡ (a + b * 256 + c * 65536 + d * 16777216) / 16777216 % 256)
byte_of a b c d p q r s = (omega arith, omega arith, omega arith, omega arith)

pub bytes_words : (m : List ℕ) → AllBelow 256 m → length m % 4 ≡ 0 → bytes (words m) ≡ m
unfolding words bytes
bytes_words [] h e = refl
bytes_words (a ∷ []) h e = absurd (omega arith)
bytes_words (a ∷ b ∷ []) h e = absurd (omega arith)
bytes_words (a ∷ b ∷ c ∷ []) h e = absurd (omega arith)
bytes_words (a ∷ b ∷ c ∷ d ∷ m) (below_too p (below_too q (below_too r (below_too s h)))) e =
    let (x, y, z, u) = byte_of a b c d p q r s in
    λ i. sym x i ∷ sym y i ∷ sym z i ∷ sym u i ∷ bytes_words m h (omega arith) i

pub bytes_length : (ws : List ℕ) → length (bytes ws) ≡ 4 * length ws
unfolding bytes
bytes_length [] = refl
bytes_length (w ∷ ws) = omega (arith, bytes_length ws)

-- ---- an area that is nothing but its words stays one

bytes_four : (ws : List ℕ) (i w : ℕ)
    → set (set (set (set (bytes ws) (four i) (w % 256)) (suc (four i)) (w / 256 % 256)) (suc (suc (four i))) (w / 65536 % 256)) (suc (suc (suc (four i)))) (w / 16777216 % 256) ≡ bytes (set ws i w)
unfolding bytes four
bytes_four [] zero w = refl
bytes_four [] (suc i) w = refl
bytes_four (v ∷ ws) zero w = refl
bytes_four (v ∷ ws) (suc i) w = ap (λ l. v % 256 ∷ v / 256 % 256 ∷ v / 65536 % 256 ∷ v / 16777216 % 256 ∷ l) (bytes_four ws i w)

pub put_bytes : (ws : List ℕ) (i w : ℕ) → put_word (bytes ws) i w ≡ bytes (set ws i w)
put_bytes ws i w = by (dec_lt i (length (bytes ws) / 4))
  where
    by : Dec (i < length (bytes ws) / 4) → put_word (bytes ws) i w ≡ bytes (set ws i w)
    by (yes l) = put_there (bytes ws) i w l ∙ simp (four_is, towards_suc) (bytes_four ws i w)
    by (no n) = put_past (bytes ws) i w (omega arith) ∙ ap bytes (sym (set_out ws i w (omega (arith, bytes_length ws))))

pub put_whole : (m : List ℕ) (i w : ℕ) → w < 4294967296 → bytes (words m) ≡ m → bytes (words (put_word m i w)) ≡ put_word m i w
put_whole m i w h e = ap bytes (words_put m i w h) ∙ sym (put_bytes (words m) i w) ∙ ap (λ l. put_word l i w) e

bytes_next : (ws : List ℕ) (a b c d : ℕ) (rest : List ℕ) (w : ℕ)
    → set (set (set (set (bytes ws ++ a ∷ b ∷ c ∷ d ∷ rest) (four (length ws)) (w % 256)) (suc (four (length ws))) (w / 256 % 256)) (suc (suc (four (length ws)))) (w / 65536 % 256)) (suc (suc (suc (four (length ws))))) (w / 16777216 % 256) ≡ bytes (ws ++ w ∷ []) ++ rest
unfolding bytes four
bytes_next [] a b c d rest w = refl
bytes_next (x ∷ ws) a b c d rest w = ap (λ l. x % 256 ∷ x / 256 % 256 ∷ x / 65536 % 256 ∷ x / 16777216 % 256 ∷ l) (bytes_next ws a b c d rest w)

-- whatever stood there
pub put_next : (ws : List ℕ) (a b c d : ℕ) (rest : List ℕ) (w : ℕ) → put_word (bytes ws ++ a ∷ b ∷ c ∷ d ∷ rest) (length ws) w ≡ bytes (ws ++ w ∷ []) ++ rest
put_next ws a b c d rest w =
    put_there (bytes ws ++ a ∷ b ∷ c ∷ d ∷ rest) (length ws) w (omega (arith, length-append (bytes ws) (a ∷ b ∷ c ∷ d ∷ rest), bytes_length ws))
    ∙ simp (four_is, towards_suc) (bytes_next ws a b c d rest w)

zero_bytes : (n : ℕ) → replicate (four n) 0 ≡ bytes (replicate n 0)
unfolding bytes four
zero_bytes zero = refl
zero_bytes (suc n) = ap (λ l. 0 ∷ 0 ∷ 0 ∷ 0 ∷ l) (zero_bytes n)

pub zeros_bytes : (n : ℕ) → replicate (4 * n) 0 ≡ bytes (replicate n 0)
zeros_bytes n =
    let e : 4 * n ≡ n * 4 = omega arith in
    ap (λ k. replicate k 0) (e ∙ four_is n) ∙ zero_bytes n
