-- A file that reads has what `Reads` says, by inverting the reading once.
use mathlib.Core.Path.{◌≡◌, refl, sym, ap, subst, ◌∙◌}
use mathlib.Core.Bool.{Bool, true, false, not, cond, ◌&&◌, ◌||◌, false≢true}
use mathlib.Core.Logic.{◌⊎◌, inl, inr}
use mathlib.Core.List.{List, [], ◌∷◌, map}
use Prim.Native.Nat.{ℕ, zero, suc, ◌+◌, ◌-◌, ◌<◌, ◌≤◌}
use native.Mathlib.Omega.{arith}
use native.Mathlib.Nat as NatL
use lib.Dec.{eqb, leb, ltb}
use lib.ListN.{length, get_or, drop, replicate, get_or-map}
use lib.IntN.{ℤ, pos, negsuc, nat_abs, ◌+ℤ◌, ◌-ℤ◌, ◌*ℤ◌, +ℤ_comm, *ℤ_comm, *ℤ-zero, -ℤ-+ℤ_cancel}
use lib.Signed.{quot_z}
use borrow.Author.Tests.{eqb-true, leb-true, ltb-true, not-true}
use Rattle.numbers.specs.Result.{ok}
use Rattle.numbers.specs.Lists.{sum, every, alike}
use Rattle.numbers.specs.Words.{signed, words, between, within, inside, equal}
use Rattle.numbers.proofs.Results.{On, on_ok, on_stop, on_need, on_then, on_map, on_because, on_at, whatever, on_self}
use Rattle.numbers.proofs.Tests.{and_left, and_right, and_true, or_cases, each_of, between_range, within_abs, inside_index, equal_eq, eq_equal, every_at}
use Rattle.numbers.proofs.Order.{abs_mul, abs_sub}
use Rattle.forms.specs.Form.{coefficient, counter, limit}
use Rattle.kernel.specs.File.{Rec, numbers, form, nothing, Kernel, input, output, side_of, on, only, length_of, first_of, count_of, step_of, index, whole_steps, loop_of, sayings, statement}
use Rattle.kernel.specs.Reading.{count, records, section, sections, zeros, array_fits, arrays_fit, Kind, array_only, stream_only, register, an_input, an_output, term, bound, table, Scope, array_scope, stream_scope, holds, has_pass, statement_fits, Open, after, closed, statements_fit, minus_one, form_fits, rule_fits, rules_fit, read_file}
use Rattle.kernel.proofs.Sides.{side_nothing}
use Rattle.kernel.specs.Guarantees.{ArrayFits, FormSmall, OnSide, LoopFits, StatementFits, Nested, over, then, RuleFits, All, Reads}

-- ---- counts

pub length_records : (n : ℕ) (ws : List ℕ) → length (records n ws) ≡ n
unfolding records
length_records zero ws = refl
length_records (suc n) ws = ap suc (length_records n (drop 8 ws))

count_range : (s low high : ℕ) (ws : List ℕ) → On (λ (t : ℕ × List ℕ). (low ≤ t.0) × (t.0 ≤ high)) (count s low high ws)
unfolding count
count_range s low high [] = on_stop
count_range s low high (n ∷ ws) = on_then _ (on_need _ _) λ t h. on_ok (between_range low high n h)

section_range : (s low high : ℕ) (ws : List ℕ) → On (λ (t : List Rec × List ℕ). (low ≤ length t.0) × (length t.0 ≤ high)) (section s low high ws)
unfolding section
section_range s low high ws =
    on_then _ (count_range s low high ws) λ (n, ws) h.
    on_then _ (on_need _ _) λ t g.
    on_ok (subst (λ m. (low ≤ m) × (m ≤ high)) (sym (length_records n ws)) h)

pub record Counted (K : Kernel) : Type 0 where
  pub registers : (1 ≤ K.registers) × (K.registers ≤ 32)
  pub buffers : (0 ≤ K.buffers) × (K.buffers ≤ 16)
  pub arrays : (1 ≤ length K.arrays) × (length K.arrays ≤ 8)
  pub array_program : (0 ≤ length K.array_program) × (length K.array_program ≤ 256)
  pub stream_program : (0 ≤ length K.stream_program) × (length K.stream_program ≤ 256)
  pub derivation : (0 ≤ length K.derivation) × (length K.derivation ≤ 1024)

sections_counted : (ws : List ℕ) → On Counted (sections ws)
unfolding sections
sections_counted ws =
    on_then _ (count_range 1 1 32 ws) λ (n, ws) a.
    on_then _ (count_range 2 0 16 ws) λ (m, ws) b.
    on_then _ (section_range 3 1 8 ws) λ (xs, ws) c.
    on_then _ (section_range 4 0 256 ws) λ (ys, ws) d.
    on_then _ (section_range 5 0 256 ws) λ (zs, ws) e.
    on_then _ (section_range 6 0 1024 ws) λ (rs, ws) f.
    on_then _ (on_need _ _) λ t g.
    on_ok (record { registers = a; buffers = b; arrays = c; array_program = d; stream_program = e; derivation = f })

-- ---- arrays

array_says : (a : Rec) → array_fits a ≡ true → ArrayFits a
unfolding array_fits on
array_says a h =
    let t = each_of (eqb (side_of a) input || eqb (side_of a) output) (between 1 4096 (length_of a) ∷ between 1 (length_of a) (count_of a) ∷ not (equal (step_of a) (pos 0)) ∷ within 4096 (step_of a) ∷ zeros (drop 1 a.x) ∷ inside (length_of a) (first_of a) ∷ inside (length_of a) (index a (count_of a - 1)) ∷ []) h in
    let lengths = between_range 1 4096 (length_of a) (t 1) in
    let counts = between_range 1 (length_of a) (count_of a) (t 2) in
    let (i, e, l) = inside_index (length_of a) (first_of a) (t 6) in
    record {
      side = code (or_cases (eqb (side_of a) input) (eqb (side_of a) output) (t 0));
      short = lengths.1;
      some = counts.0;
      counted = counts.1;
      moves = λ z. false≢true (sym (not-true (equal (step_of a) (pos 0)) (t 3)) ∙ eq_equal z);
      step_small = within_abs 4096 (step_of a) (t 4);
      first_inside = subst (λ n. n < length_of a) (sym (ap nat_abs e)) l;
      last_inside = t 7;
    }
  where
    code : (eqb (side_of a) input ≡ true) ⊎ (eqb (side_of a) output ≡ true) → (side_of a ≡ input) ⊎ (side_of a ≡ output)
    code (inl e) = inl (eqb-true (side_of a) input e)
    code (inr e) = inr (eqb-true (side_of a) output e)

pub record ArraysFit (i o : ℕ) (arrays : List Rec) : Type 0 where
  pub each_one : All ArrayFits arrays
  pub inputs : i + sum (map (only input length_of) arrays) ≤ 8192
  pub outputs : o + sum (map (only output length_of) arrays) ≤ 8192

pub arrays_say : (n i o : ℕ) (arrays : List Rec) → i ≤ 8192 → o ≤ 8192 → On (λ t. ArraysFit i o arrays) (arrays_fit n i o arrays)
unfolding arrays_fit sum
arrays_say n i o [] hi ho = on_ok (record { each_one = tt; inputs = omega arith; outputs = omega arith })
arrays_say n i o (a ∷ rest) hi ho =
    on_then _ (on_need _ _) λ t h.
    let u = each_of (array_fits a) (leb (i + only input length_of a) 8192 ∷ leb (o + only output length_of a) 8192 ∷ []) h in
    on_map (λ t r. record {
      each_one = (array_says a (u 0), r.each_one);
      inputs = omega (arith, r.inputs);
      outputs = omega (arith, r.outputs);
    })
    (arrays_say (suc n) (i + only input length_of a) (o + only output length_of a) rest (leb-true (i + only input length_of a) 8192 (u 1)) (leb-true (o + only output length_of a) 8192 (u 2)))

-- ---- statements

-- the first four numbers of a record, and the rest
row_says : (c : Scope) (t u v y : Kind) (ts : List Kind) (n p q k : ℕ) (x : List ℕ) → alike (holds c) (t ∷ u ∷ v ∷ y ∷ ts) (n ∷ p ∷ q ∷ k ∷ x) ≡ true
    → (holds c t n ≡ true) × (holds c u p ≡ true) × (holds c v q ≡ true) × (holds c y k ≡ true) × (alike (holds c) ts x ≡ true)
unfolding alike
row_says c t u v y ts n p q k x h =
    let a = and_right (holds c t n) (alike (holds c) (u ∷ v ∷ y ∷ ts) (p ∷ q ∷ k ∷ x)) h in
    let b = and_right (holds c u p) (alike (holds c) (v ∷ y ∷ ts) (q ∷ k ∷ x)) a in
    let d = and_right (holds c v q) (alike (holds c) (y ∷ ts) (k ∷ x)) b in (
      and_left (holds c t n) (alike (holds c) (u ∷ v ∷ y ∷ ts) (p ∷ q ∷ k ∷ x)) h,
      and_left (holds c u p) (alike (holds c) (v ∷ y ∷ ts) (q ∷ k ∷ x)) a,
      and_left (holds c v q) (alike (holds c) (y ∷ ts) (k ∷ x)) b,
      and_left (holds c y k) (alike (holds c) ts x) d,
      and_right (holds c y k) (alike (holds c) ts x) d,
    )

is_register : (c : Scope) (w : ℕ) → holds c register w ≡ true → w < c.registers
unfolding holds
is_register c w h = ltb-true w c.registers h

-- the arrays end, and what stands after them is on no side
there_on : (side : ℕ) (arrays : List Rec) (q : ℕ) → 1 ≤ side → on side (get_or arrays q nothing) ≡ true → (q < length arrays) × (side_of (get_or arrays q nothing) ≡ side)
unfolding on
there_on side [] q s h = absurd (no_side s (sym side_nothing ∙ eqb-true (side_of nothing) side h))
  where
    no_side : 1 ≤ side → 0 ≡ side → ⊥
    no_side s e = omega arith
there_on side (a ∷ arrays) zero s h = (omega arith, eqb-true (side_of a) side h)
there_on side (a ∷ arrays) (suc q) s h = let (l, e) = there_on side arrays q s h in (omega arith, e)

is_input : (c : Scope) (q : ℕ) → holds c an_input q ≡ true → OnSide input c q
unfolding holds
is_input c q h = let (l, e) = there_on input c.arrays q (omega arith) h in record { there = l; its_side = e }

is_output : (c : Scope) (q : ℕ) → holds c an_output q ≡ true → OnSide output c q
unfolding holds
is_output c q h = let (l, e) = there_on output c.arrays q (omega arith) h in record { there = l; its_side = e }

terms_small : (c : Scope) (n : ℕ) (x : List ℕ) → alike (holds c) (replicate n term) x ≡ true → (level : ℕ) → nat_abs (get_or (map signed x) level (pos 0)) ≤ 1048576
unfolding alike holds
terms_small c n [] h level = omega arith
terms_small c zero (w ∷ x) h level = absurd (false≢true h)
terms_small c (suc n) (w ∷ x) h zero = within_abs 1048576 (signed w) (and_left (within 1048576 (signed w)) (alike (holds c) (replicate n term) x) h)
terms_small c (suc n) (w ∷ x) h (suc level) = terms_small c n x (and_right (within 1048576 (signed w)) (alike (holds c) (replicate n term) x) h) level

five_small : (c : Scope) (r : Rec) → holds c term r.k ≡ true → alike (holds c) (term ∷ term ∷ term ∷ term ∷ []) r.x ≡ true → FormSmall (form r)
unfolding holds form coefficient
five_small c r h g = record { k_small = within_abs 1048576 (signed r.k) h; x_small = λ level. terms_small c 4 r.x g level }

bound_small : (c : Scope) (w : ℕ) → holds c bound w ≡ true → nat_abs (signed w) ≤ 65536
unfolding holds
bound_small c w h = within_abs 65536 (signed w) h

in_array_program : (c : Scope) (w : ℕ) → holds c array_only w ≡ true → c.streaming ≡ false
unfolding holds
in_array_program c w h = not-true c.streaming h

in_stream_program : (c : Scope) (w : ℕ) → holds c stream_only w ≡ true → c.streaming ≡ true
unfolding holds
in_stream_program c w h = h

-- ---- loops

-- where there is a pass, the passes times the step are the way from first to limit
whole_meets : (d s : ℤ) → 1 ≤ whole_steps d s → pos (whole_steps d s) *ℤ s ≡ d
unfolding whole_steps
whole_meets d s h = by (quot_z d s) h
  where
    quotient : ℤ → ℕ
    quotient z = elim z [ pos n ↦ cond (equal (pos n *ℤ s) d) n 0 | negsuc n ↦ 0 ]

    by : (z : ℤ) → 1 ≤ quotient z → pos (quotient z) *ℤ s ≡ d
    by (pos n) h = test (equal (pos n *ℤ s) d) refl h
      where
        test : (t : Bool) → equal (pos n *ℤ s) d ≡ t → 1 ≤ cond (equal (pos n *ℤ s) d) n 0 → pos (cond (equal (pos n *ℤ s) d) n 0) *ℤ s ≡ d
        test true e h = ap (λ t. pos (cond t n 0) *ℤ s) e ∙ equal_eq (pos n *ℤ s) d e
        test false e h = absurd (none_left (subst (λ t. 1 ≤ cond t n 0) e h))
          where
            none_left : 1 ≤ 0 → ⊥
            none_left h = omega arith
    by (negsuc n) h = absurd (none_left h)
      where
        none_left : 1 ≤ 0 → ⊥
        none_left h = omega arith

whole_zero : whole_steps (pos 0) (pos 0) ≡ 0
unfolding whole_steps equal
whole_zero = refl

-- limit is the file's q
pub limit_of : (r : Rec) → 1 ≤ (loop_of r).passes → limit (loop_of r) ≡ signed r.q
unfolding loop_of limit counter
limit_of r h = sym
    (sym (-ℤ-+ℤ_cancel (signed r.q) (signed r.p))
    ∙ ap (λ z. z +ℤ signed r.p) (sym (whole_meets (signed r.q -ℤ signed r.p) (signed r.k) h))
    ∙ +ℤ_comm (pos (loop_of r).passes *ℤ signed r.k) (signed r.p)
    ∙ ap (λ z. signed r.p +ℤ z) (*ℤ_comm (pos (loop_of r).passes) (signed r.k)))

loop_says : (r : Rec) → nat_abs (signed r.p) ≤ 65536 → nat_abs (signed r.q) ≤ 65536 → nat_abs (signed r.k) ≤ 65536 → 1 ≤ (loop_of r).passes → LoopFits (loop_of r)
unfolding loop_of
loop_says r p q k h = record {
  some = h;
  few = omega (arith, NatL.mul-le-mul_left n (some_step s moves), sym (abs_mul (pos n) s) ∙ ap nat_abs way, abs_sub (signed r.q) (signed r.p));
  moves = moves;
  first_small = p;
  step_small = k;
  limit_small = subst (λ z. nat_abs z ≤ 65536) (sym (limit_of r h)) q;
}
  where
    s : ℤ
    s = signed r.k

    n : ℕ
    n = whole_steps (signed r.q -ℤ signed r.p) s

    way : pos n *ℤ s ≡ signed r.q -ℤ signed r.p
    way = whole_meets (signed r.q -ℤ signed r.p) s h

    moves : s ≡ pos 0 → ⊥
    moves e =
        let none : pos 0 ≡ signed r.q -ℤ signed r.p = sym (*ℤ-zero (pos n)) ∙ ap (λ z. pos n *ℤ z) (sym e) ∙ way in
        let zero_passes : n ≡ 0 = (λ i. whole_steps (sym none i) (e i)) ∙ whole_zero in
        omega (arith, zero_passes, h)

    some_step : (z : ℤ) → (z ≡ pos 0 → ⊥) → 1 ≤ nat_abs z
    some_step (pos zero) f = absurd (f refl)
    some_step (pos (suc m)) f = omega arith
    some_step (negsuc m) f = omega arith

-- ---- a statement that fits, by its code

code_says : (c : Scope) (n p q k : ℕ) (x : List ℕ) → 1 ≤ n → n ≤ 11 → alike (holds c) (get_or table (n - 1) []) (n ∷ p ∷ q ∷ k ∷ x) ≡ true
    → has_pass (statement (record { code = n; p = p; q = q; k = k; x = x })) ≡ true → StatementFits c (statement (record { code = n; p = p; q = q; k = k; x = x }))
unfolding table statement sayings has_pass
code_says c zero p q k x low high h l = absurd (nothing_there low)
  where
    nothing_there : 1 ≤ 0 → ⊥
    nothing_there h = omega arith
code_says c (suc zero) p q k x low high h l =
    let (t, a, b, d, e) = row_says c _ _ _ _ _ 1 p q k x h in
    (is_register c p a, five_small c (record { code = 1; p = p; q = q; k = k; x = x }) d e)
code_says c (suc (suc zero)) p q k x low high h l =
    let (t, a, b, d, e) = row_says c _ _ _ _ _ 2 p q k x h in
    (is_register c p a, is_register c q b)
code_says c (suc (suc (suc zero))) p q k x low high h l =
    let (t, a, b, d, e) = row_says c _ _ _ _ _ 3 p q k x h in
    (is_register c p a, is_register c q b, is_register c k d)
code_says c (suc (suc (suc (suc zero)))) p q k x low high h l =
    let (t, a, b, d, e) = row_says c _ _ _ _ _ 4 p q k x h in
    (is_register c p a, is_input c q b, five_small c (record { code = 4; p = p; q = q; k = k; x = x }) d e, in_array_program c 4 t)
code_says c (suc (suc (suc (suc (suc zero))))) p q k x low high h l =
    let (t, a, b, d, e) = row_says c _ _ _ _ _ 5 p q k x h in
    (is_register c p a, is_output c q b, five_small c (record { code = 5; p = p; q = q; k = k; x = x }) d e, in_array_program c 5 t)
code_says c (suc (suc (suc (suc (suc (suc zero)))))) p q k x low high h l =
    let (t, a, b, d, e) = row_says c _ _ _ _ _ 6 p q k x h in
    (is_register c p a, is_input c q b, in_stream_program c 6 t)
code_says c (suc (suc (suc (suc (suc (suc (suc zero))))))) p q k x low high h l =
    let (t, a, b, d, e) = row_says c _ _ _ _ _ 7 p q k x h in
    (is_register c p a, is_output c q b, in_stream_program c 7 t)
code_says c (suc (suc (suc (suc (suc (suc (suc (suc zero)))))))) p q k x low high h l =
    let (t, a, b, d, e) = row_says c _ _ _ _ _ 8 p q k x h in
    loop_says (record { code = 8; p = p; q = q; k = k; x = x }) (bound_small c p a) (bound_small c q b) (bound_small c k d) (leb-true 1 _ l)
code_says c (suc (suc (suc (suc (suc (suc (suc (suc (suc zero))))))))) p q k x low high h l =
    let (t, a, b, d, e) = row_says c _ _ _ _ _ 9 p q k x h in
    is_register c p a
code_says c (suc (suc (suc (suc (suc (suc (suc (suc (suc (suc zero)))))))))) p q k x low high h l = tt
code_says c (suc (suc (suc (suc (suc (suc (suc (suc (suc (suc (suc zero))))))))))) p q k x low high h l = tt
code_says c (suc (suc (suc (suc (suc (suc (suc (suc (suc (suc (suc (suc n)))))))))))) p q k x low high h l = absurd (too_high high)
  where
    too_high : suc (suc (suc (suc (suc (suc (suc (suc (suc (suc (suc (suc n))))))))))) ≤ 11 → ⊥
    too_high h = omega arith

pub statement_says : (c : Scope) (r : Rec) → statement_fits c r ≡ true → StatementFits c (statement r)
unfolding statement_fits numbers
statement_says c r h =
    let t = each_of (between 1 11 r.code) (alike (holds c) (get_or table (r.code - 1) []) (r.code ∷ r.p ∷ r.q ∷ r.k ∷ r.x) ∷ has_pass (statement r) ∷ []) h in
    let codes = between_range 1 11 r.code (t 0) in
    code_says c r.code r.p r.q r.k r.x codes.0 codes.1 (t 1) (t 2)

-- ---- programs

closed_none : (c : Scope) (s n : ℕ) (os : List Open) → On (λ t. Nested c os []) (closed s n os)
unfolding closed
closed_none c s n [] = on_ok over
closed_none c s n (o ∷ os) = on_stop

statements_say : (c : Scope) (s n : ℕ) (os : List Open) (rs : List Rec) → On (λ t. Nested c os rs) (statements_fit c s n os rs)
unfolding statements_fit
statements_say c s n os [] = closed_none c s n os
statements_say c s n os (r ∷ rs) =
    on_then _ (on_need _ _) λ t h.
    on_then _ (on_because _ (on_self (after (statement r) os))) λ os' e.
    on_map (λ t more. then (statement_says c r h) e more) (statements_say c s (suc n) os' rs)

-- ---- rules

zeros_small : (ws : List ℕ) → zeros ws ≡ true → every (λ w. within 1048576 (signed w)) ws ≡ true
unfolding zeros every within signed
zeros_small [] h = refl
zeros_small (w ∷ ws) h = and_true (subst (λ w. within 1048576 (signed w) ≡ true) (eqb-true 0 w (and_left (eqb 0 w) (every (eqb 0) ws) h)) refl) (zeros_small ws (and_right (eqb 0 w) (every (eqb 0) ws) h))

signed_zero : signed 0 ≡ pos 0
unfolding signed
signed_zero = refl

pub signed_at : (x : List ℕ) (i : ℕ) → get_or (map signed x) i (pos 0) ≡ signed (get_or x i 0)
signed_at x i = ap (λ z. get_or (map signed x) i z) (sym signed_zero) ∙ get_or-map signed x i 0

zero_within : within 1048576 (signed 0) ≡ true
unfolding within signed
zero_within = refl

form_says : (r : Rec) → every (λ w. within 1048576 (signed w)) (r.k ∷ r.x) ≡ true → FormSmall (form r)
unfolding form coefficient
form_says r h = record {
  k_small = within_abs 1048576 (signed r.k) (every_at (λ w. within 1048576 (signed w)) (r.k ∷ r.x) 0 h zero_within 0);
  x_small = λ level. subst (λ z. nat_abs z ≤ 1048576) (sym (signed_at r.x level)) (within_abs 1048576 (signed (get_or r.x level 0)) (every_at (λ w. within 1048576 (signed w)) (r.k ∷ r.x) 0 h zero_within (suc level)));
}

rule_says : (K : Kernel) (r : Rec) → rule_fits K r ≡ true → RuleFits K r
unfolding rule_fits form_fits numbers
rule_says K r h = by (or_cases _ _ h)
  where
    A : ℕ
    A = length K.arrays

    plain : Bool
    plain = between 1 10 r.code && zeros (drop 1 (r.code ∷ r.p ∷ r.q ∷ r.k ∷ r.x))

    position : Bool
    position = eqb r.code 11 && ltb r.p A && eqb r.q 0 && every (λ w. within 1048576 (signed w)) (r.k ∷ r.x)

    buffer : Bool
    buffer = eqb r.code 12 && ltb r.p K.buffers && (eqb r.q minus_one && zeros (r.k ∷ r.x) || ltb r.q A && every (λ w. within 1048576 (signed w)) (r.k ∷ r.x))

    by : (plain || position ≡ true) ⊎ (buffer ≡ true) → RuleFits K r
    by (inl e) = plain_or (or_cases plain position e)
      where
        plain_or : (plain ≡ true) ⊎ (position ≡ true) → RuleFits K r
        plain_or (inl e) =
            let codes = between_range 1 10 r.code (and_left (between 1 10 r.code) _ e) in
            record {
              form_small = form_says r (zeros_small (r.k ∷ r.x) (tail r.q (r.k ∷ r.x) (tail r.p (r.q ∷ r.k ∷ r.x) (and_right (between 1 10 r.code) _ e))));
              position_row = λ c. absurd (omega (arith, codes.1, c));
              buffer_row = λ c. absurd (omega (arith, codes.1, c));
              held_array = λ c. absurd (omega (arith, codes.1, c));
            }
          where
            tail : (w : ℕ) (ws : List ℕ) → zeros (w ∷ ws) ≡ true → zeros ws ≡ true
            tail w ws h = unfold zeros every in and_right (eqb 0 w) (every (eqb 0) ws) h
        plain_or (inr e) =
            let t = each_of (eqb r.code 11) (ltb r.p A ∷ eqb r.q 0 ∷ every (λ w. within 1048576 (signed w)) (r.k ∷ r.x) ∷ []) e in
            let code = eqb-true r.code 11 (t 0) in
            record {
              form_small = form_says r (t 3);
              position_row = λ c. ltb-true r.p A (t 1);
              buffer_row = λ c. absurd (omega (arith, code, c));
              held_array = λ c. absurd (omega (arith, code, c));
            }
    by (inr e) =
        let t = each_of (eqb r.code 12) (ltb r.p K.buffers ∷ (eqb r.q minus_one && zeros (r.k ∷ r.x) || ltb r.q A && every (λ w. within 1048576 (signed w)) (r.k ∷ r.x)) ∷ []) e in
        let code = eqb-true r.code 12 (t 0) in
        let held = of_buffer (or_cases _ _ (t 2)) in
        record {
          form_small = held.0;
          position_row = λ c. absurd (omega (arith, code, c));
          buffer_row = λ c. ltb-true r.p K.buffers (t 1);
          held_array = λ c. held.1;
        }
      where
        of_buffer : (eqb r.q minus_one && zeros (r.k ∷ r.x) ≡ true) ⊎ (ltb r.q A && every (λ w. within 1048576 (signed w)) (r.k ∷ r.x) ≡ true) → FormSmall (form r) × ((r.q ≡ minus_one) ⊎ (r.q < A))
        of_buffer (inl e) = (form_says r (zeros_small (r.k ∷ r.x) (and_right (eqb r.q minus_one) _ e)), inl (eqb-true r.q minus_one (and_left (eqb r.q minus_one) _ e)))
        of_buffer (inr e) = (form_says r (and_right (ltb r.q A) _ e), inr (ltb-true r.q A (and_left (ltb r.q A) _ e)))

rules_say : (K : Kernel) (n : ℕ) (rs : List Rec) → On (λ t. All (RuleFits K) rs) (rules_fit K n rs)
unfolding rules_fit
rules_say K n [] = on_ok tt
rules_say K n (r ∷ rs) =
    on_then _ (on_need _ _) λ t h.
    on_map (λ t more. (rule_says K r h, more)) (rules_say K (suc n) rs)

-- ---- the whole

pub file_reads : (bytes : List ℕ) → On Reads (read_file bytes)
unfolding read_file
file_reads bytes =
    on_then _ (on_need _ _) λ t h.
    on_then _ (sections_counted (words bytes)) λ K counts.
    on_then _ (arrays_say 0 0 0 K.arrays (omega arith) (omega arith)) λ t arrays.
    on_then _ (statements_say (array_scope K) 4 0 [] K.array_program) λ t ones.
    on_then _ (statements_say (stream_scope K) 5 0 [] K.stream_program) λ t twos.
    on_then _ (rules_say K 0 K.derivation) λ t rules.
    on_ok (record {
      some_registers = counts.registers.0;
      few_registers = counts.registers.1;
      few_buffers = counts.buffers.1;
      some_arrays = counts.arrays.0;
      few_arrays = counts.arrays.1;
      arrays = arrays.each_one;
      input_lengths = omega (arith, arrays.inputs);
      output_lengths = omega (arith, arrays.outputs);
      few_array_statements = counts.array_program.1;
      array_program = ones;
      few_stream_statements = counts.stream_program.1;
      stream_program = twos;
      few_rules = counts.derivation.1;
      derivation = rules;
    })

-- its arrays were found right
pub arrays_found : (bytes : List ℕ) → On (λ (K : Kernel). arrays_fit 0 0 0 K.arrays ≡ ok tt) (read_file bytes)
unfolding read_file
arrays_found bytes =
    on_then _ whatever λ t h.
    on_then _ whatever λ K counts.
    on_then _ (on_self (arrays_fit 0 0 0 K.arrays)) λ t e.
    on_then _ whatever λ t ones.
    on_then _ whatever λ t twos.
    on_then _ whatever λ t rules.
    on_ok e

pub fitting : (arrays : List Rec) → arrays_fit 0 0 0 arrays ≡ ok tt → All ArrayFits arrays
fitting arrays e = (on_at (arrays_say 0 0 0 arrays (omega arith) (omega arith)) e).each_one

-- ---- an element of a row

pub all_at : {A : Type 0} (P : A → Type 0) (xs : List A) (d : A) → All P xs → (i : ℕ) → i < length xs → P (get_or xs i d)
all_at P [] d a i h = absurd (none_below h)
  where
    none_below : i < 0 → ⊥
    none_below h = omega arith
all_at P (x ∷ xs) d a zero h = a.0
all_at P (x ∷ xs) d a (suc i) h = all_at P xs d a.1 i (omega arith)
