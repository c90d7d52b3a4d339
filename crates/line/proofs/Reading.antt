-- A line tells its answer: its numbers can be read again.
use Rattle.std.proofs.Common.{◌≡◌, ℕ, zero, suc, ◌+◌, ◌-◌, ◌*◌, ◌/◌, ◌%◌, ◌≤◌, ◌<◌, Bool, true, false, List, [], ◌∷◌, drop, get_or, refl, sym, ap, ◌∙◌, arith}
use lib.Dec.{ltb}
use borrow.Author.Tests.{ltb-true, ltb-false, le-ltb}
use Rattle.kernel.specs.Reading.{fault}
use Rattle.kernel.specs.Answers.{Checked, accepted, unread, refused, decimal, spaced, line, fault_numbers, refusal_numbers}
use Rattle.kernel.proofs.Digits.{digit, last_digit}

-- the number whose digits come first, those of n before them, and what follows
reads : ℕ → List ℕ → ℕ × List ℕ
reads n [] = (n, [])
reads n (b ∷ t) = elim (ltb b 48) [ true ↦ (n, b ∷ t) | false ↦ reads (n * 10 + (b - 48)) t ]

one_digit : (n d : ℕ) (t : List ℕ) → reads n ((48 + d) ∷ t) ≡ reads (n * 10 + d) t
unfolding reads
one_digit n d t =
    let value : 48 + d - 48 ≡ d = omega arith in
    ap (λ b. elim b [ true ↦ (n, (48 + d) ∷ t) | false ↦ reads (n * 10 + (48 + d - 48)) t ]) (le-ltb (48 + d) 48 (omega arith)) ∙ ap (λ v. reads (n * 10 + v) t) value

-- with those before the last as they are read
by_size : (f n : ℕ) (t : List ℕ) (b : Bool) → ltb n 10 ≡ b → (10 ≤ n → reads 0 (decimal f (n / 10) ((48 + n % 10) ∷ t)) ≡ reads (n / 10) ((48 + n % 10) ∷ t)) → reads 0 (decimal (suc f) n t) ≡ reads n t
by_size f n t true e front =
    let whole : 0 * 10 + n ≡ n = omega arith in
    ap (reads 0) (digit f n t (ltb-true n 10 e)) ∙ one_digit 0 n t ∙ ap (λ m. reads m t) whole
by_size f n t false e front =
    let large = ltb-false n 10 e in
    let whole : n / 10 * 10 + n % 10 ≡ n = omega arith in
    ap (reads 0) (last_digit f n t large) ∙ front large ∙ one_digit (n / 10) (n % 10) t ∙ ap (λ m. reads m t) whole

digits : (f n : ℕ) (t : List ℕ) → n < f → reads 0 (decimal f n t) ≡ reads n t
digits zero n t h = absurd (omega arith)
digits (suc f) n t h = by_size f n t (ltb n 10) refl λ large. digits f (n / 10) ((48 + n % 10) ∷ t) (omega arith)

-- numbers end where a space or the line's end comes
ends : (n : ℕ) (ns : List ℕ) → reads n (spaced ns) ≡ (n, spaced ns)
unfolding spaced reads
ends n [] = refl
ends n (m ∷ ms) = refl

same_numbers : (ns ms : List ℕ) → spaced ns ≡ spaced ms → ns ≡ ms
unfolding spaced
same_numbers [] [] e = refl
same_numbers [] (m ∷ ms) e = let first : 10 ≡ 32 = ap (λ l. get_or l 0 0) e in absurd (omega (arith, first))
same_numbers (n ∷ ns) [] e = let first : 32 ≡ 10 = ap (λ l. get_or l 0 0) e in absurd (omega (arith, first))
same_numbers (n ∷ ns) (m ∷ ms) e =
    let read : (k : ℕ) (ks : List ℕ) → reads 0 (decimal (suc k) k (spaced ks)) ≡ (k, spaced ks) = λ k ks. digits (suc k) k (spaced ks) (omega arith) ∙ ends k ks in
    let both = sym (read n ns) ∙ ap (λ l. reads 0 (drop 1 l)) e ∙ read m ms in
    let front = ap (λ p. p.0) both in
    let rest = same_numbers ns ms (ap (λ p. p.1) both) in
    λ i. front i ∷ rest i

nth : {ns ms : List ℕ} (n : ℕ) → ns ≡ ms → get_or ns n 0 ≡ get_or ms n 0
nth n e = ap (λ l. get_or l n 0) e

pub one_line : (a b : Checked) → line a ≡ line b → a ≡ b
unfolding line fault_numbers refusal_numbers
one_line accepted accepted e = refl
one_line (unread (fault n s p)) (unread (fault m t q)) e =
    let same = same_numbers (fault_numbers (fault n s p)) (fault_numbers (fault m t q)) (ap (λ l. drop 4 l) e) in
    λ i. unread (fault (nth 0 same i) (nth 1 same i) (nth 2 same i))
one_line (refused r) (refused s) e =
    let same = same_numbers (refusal_numbers r) (refusal_numbers s) (ap (λ l. drop 5 l) e) in
    λ i. refused (record { number = nth 0 same i; rule = nth 1 same i; array = nth 2 same i; stream = nth 3 same i })
one_line accepted (unread (fault m t q)) e = let first : 97 ≡ 114 = nth 0 e in absurd (omega (arith, first))
one_line accepted (refused s) e = let first : 97 ≡ 99 = nth 0 e in absurd (omega (arith, first))
one_line (unread (fault n s p)) accepted e = let first : 114 ≡ 97 = nth 0 e in absurd (omega (arith, first))
one_line (unread (fault n s p)) (refused r) e = let first : 114 ≡ 99 = nth 0 e in absurd (omega (arith, first))
one_line (refused r) accepted e = let first : 99 ≡ 97 = nth 0 e in absurd (omega (arith, first))
one_line (refused r) (unread (fault m t q)) e = let first : 99 ≡ 114 = nth 0 e in absurd (omega (arith, first))
