-- A byte before a text: what the text then shows.
use Prim.Native.Nat.{ℕ, zero, suc, ◌+◌, ◌-◌, ◌≤◌, ◌<◌}
use mathlib.Core.Path.{◌≡◌, refl, sym, ap, ◌∙◌}
use mathlib.Core.List.{List, ◌∷◌, ◌++◌}
use native.Mathlib.Omega.{arith}
use lib.ListN.{length, get_or, drop, set, replicate, length-append, length-set, length-replicate}
use lib.Seq.{set_at, drop-cons}
use Rattle.line.specs.declared.Text.{Text}
use Rattle.line.specs.View.{Shows}

-- one zero of a row goes to what follows
zero_over : (n : ℕ) (t : List ℕ) → replicate (suc n) 0 ++ t ≡ replicate n 0 ++ (0 ∷ t)
zero_over zero t = refl
zero_over (suc n) t = ap (λ l. 0 ∷ l) (zero_over n t)

before : (bytes t : List ℕ) (n b : ℕ) → bytes ≡ replicate (suc n) 0 ++ t → set bytes n b ≡ replicate n 0 ++ (b ∷ t)
before bytes t n b e = ap (λ l. set l n b) (e ∙ zero_over n t) ∙ set_at (replicate n 0) 0 t b n (length-replicate n 0)

-- the text that has a byte more
pub one_more : (s : Text) (b : ℕ) → 1 ≤ s.from → (t : List ℕ) → Shows s t → Shows (record { bytes = set s.bytes (s.from - 1) b; from = s.from - 1 }) (b ∷ t)
one_more s b h t shows =
    let e : s.from ≡ suc (s.from - 1) = omega arith in record {
      bytes = before s.bytes t (s.from - 1) b (shows.bytes ∙ ap (λ n. replicate n 0 ++ t) e);
      long = length-set s.bytes (s.from - 1) b ∙ shows.long;
    }

-- a word from byte i − 1 on is that byte, then the word from byte i on
pub one_byte : (w : List ℕ) (i : ℕ) → 0 < i → i ≤ length w → get_or w (i - 1) 0 ∷ drop i w ≡ drop (i - 1) w
one_byte w i h l =
    let e : suc (i - 1) ≡ i = omega arith in
    ap (λ n. get_or w (i - 1) 0 ∷ drop n w) (sym e) ∙ sym (drop-cons w (i - 1) 0 (omega arith))

-- what a text shows fills its bytes to the end
pub ends : {s : Text} {t : List ℕ} → Shows s t → s.from + length t ≡ 32
ends {s} {t} shows =
    let zeros : List ℕ = replicate s.from 0 in
    omega (arith, ap length shows.bytes, shows.long, length-append zeros t, length-replicate {A = ℕ} s.from 0)

-- and so begins within them
pub begins : {s : Text} {t : List ℕ} → Shows s t → s.from ≤ 32
begins shows = omega (arith, ends shows)
