-- The order of ℤ, through naturals: every integer is `up z` less `down z`, two naturals of which one is 0, so that an order of
-- integers is one of naturals, which omega reads.
use Rattle.std.proofs.Common.{◌≡◌, ℕ, zero, suc, ◌+◌, ◌-◌, ◌*◌, ◌<◌, ◌≤◌, Bool, true, false, cond, not, T, ltb, ◌⊎◌, ℤ, pos, negsuc, ◌+ℤ◌, ◌-ℤ◌, ◌*ℤ◌, neg_ℤ, nat_abs, ◌≤ℤ◌, ◌<ℤ◌, sym, refl, subst, inl, inr, arith, le→leb, ltb→lt, lt→ltb, leb→le, nltb→le}
use native.Mathlib.Nat as NatL
use lib.Dec.{nleb→lt}
use lib.IntN.{sub_ℕ}
use lib.Signed.{le_z, lt_z}

abbrev pub up : ℤ → ℕ
up (pos n) = n
up (negsuc n) = 0

abbrev pub down : ℤ → ℕ
down (pos n) = 0
down (negsuc n) = suc n

pub one_zero : (z : ℤ) → (up z ≡ 0) ⊎ (down z ≡ 0)
one_zero (pos n) = inr refl
one_zero (negsuc n) = inl refl

pub abs_parts : (z : ℤ) → nat_abs z ≡ up z + down z
abs_parts (pos n) = omega arith
abs_parts (negsuc n) = omega arith

-- ---- parts of a sum

sub_parts : (a b : ℕ) → up (sub_ℕ a b) + b ≡ a + down (sub_ℕ a b)
sub_parts a b = by (ltb a b) (λ t. lt (ltb→lt a b t)) (λ t. ge (nltb→le a b t))
  where
    by : (t : Bool) → (T t → up (negsuc (b - suc a)) + b ≡ a + down (negsuc (b - suc a))) → (T (not t) → up (pos (a - b)) + b ≡ a + down (pos (a - b))) → up (cond t (negsuc (b - suc a)) (pos (a - b))) + b ≡ a + down (cond t (negsuc (b - suc a)) (pos (a - b)))
    by true f g = f tt
    by false f g = g tt

    lt : a < b → 0 + b ≡ a + suc (b - suc a)
    lt h = omega arith

    ge : b ≤ a → (a - b) + b ≡ a + 0
    ge h = omega arith

pub add_parts : (a b : ℤ) → up (a +ℤ b) + (down a + down b) ≡ (up a + up b) + down (a +ℤ b)
add_parts (pos a) (pos b) = omega arith
add_parts (pos a) (negsuc b) = omega (arith, sub_parts a (suc b))
add_parts (negsuc a) (pos b) = omega (arith, sub_parts b (suc a))
add_parts (negsuc a) (negsuc b) = omega arith

-- ---- an order, as one of naturals

pub le_parts : {a b : ℤ} → a ≤ℤ b → up a + down b ≤ up b + down a
le_parts {a = pos a} {b = pos b} h = let k : a ≤ b = leb→le a b h.le in omega arith
le_parts {a = pos a} {b = negsuc b} h = absurd h.le
le_parts {a = negsuc a} {b = pos b} h = omega arith
le_parts {a = negsuc a} {b = negsuc b} h = let k : b ≤ a = leb→le b a h.le in omega arith

pub parts_le : (a b : ℤ) → up a + down b ≤ up b + down a → a ≤ℤ b
parts_le (pos a) (pos b) h = record { le = le→leb a b (omega arith) }
parts_le (pos a) (negsuc b) h = absurd (omega arith)
parts_le (negsuc a) (pos b) h = record { le = tt }
parts_le (negsuc a) (negsuc b) h = record { le = le→leb b a (omega arith) }

pub lt_parts : {a b : ℤ} → a <ℤ b → up a + down b < up b + down a
lt_parts {a = pos a} {b = pos b} h = let k : a < b = ltb→lt a b h.lt in omega arith
lt_parts {a = pos a} {b = negsuc b} h = absurd h.lt
lt_parts {a = negsuc a} {b = pos b} h = omega arith
lt_parts {a = negsuc a} {b = negsuc b} h = let k : b < a = ltb→lt b a h.lt in omega arith

pub parts_lt : (a b : ℤ) → up a + down b < up b + down a → a <ℤ b
parts_lt (pos a) (pos b) h = record { lt = lt→ltb a b (omega arith) }
parts_lt (pos a) (negsuc b) h = absurd (omega arith)
parts_lt (negsuc a) (pos b) h = record { lt = tt }
parts_lt (negsuc a) (negsuc b) h = record { lt = lt→ltb b a (omega arith) }

-- ---- laws of the order

pub le_trans : {a b c : ℤ} → a ≤ℤ b → b ≤ℤ c → a ≤ℤ c
le_trans {a} {b} {c} h k = parts_le a c (omega (arith, le_parts h, le_parts k))

pub le_lt_trans : {a b c : ℤ} → a ≤ℤ b → b <ℤ c → a <ℤ c
le_lt_trans {a} {b} {c} h k = parts_lt a c (omega (arith, le_parts h, lt_parts k))

pub add_le : {a b c d : ℤ} → a ≤ℤ b → c ≤ℤ d → (a +ℤ c) ≤ℤ (b +ℤ d)
add_le {a} {b} {c} {d} h k = parts_le (a +ℤ c) (b +ℤ d) (omega (arith, le_parts h, le_parts k, add_parts a c, add_parts b d))

pub pos_le : {m n : ℕ} → m ≤ n → pos m ≤ℤ pos n
pos_le {m} {n} h = record { le = le→leb m n h }

pub pos_lt : {m n : ℕ} → pos m <ℤ pos n → m < n
pos_lt {m} {n} h = ltb→lt m n h.lt

-- ---- tests, as conditions leave them

yes_is : {t : Bool} → t ≡ true → T t
yes_is e = subst T (sym e) tt

no_is : {t : Bool} → t ≡ false → T (not t)
no_is e = subst (λ (t : Bool). T (not t)) (sym e) tt

pub test_lt : (a b : ℤ) → lt_z a b ≡ true → a <ℤ b
test_lt a b e = record { lt = yes_is e }

pub lt_test : {a b : ℤ} → a <ℤ b → lt_z a b ≡ true
lt_test {a} {b} h = sure (lt_z a b) h.lt
  where
    sure : (t : Bool) → T t → t ≡ true
    sure true u = refl
    sure false u = absurd u

pub test_not_lt : (a b : ℤ) → lt_z a b ≡ false → b ≤ℤ a
test_not_lt (pos a) (pos b) e = record { le = le→leb b a (nltb→le a b (no_is e)) }
test_not_lt (pos a) (negsuc b) e = record { le = tt }
test_not_lt (negsuc a) (pos b) e = record { le = no_is e }
test_not_lt (negsuc a) (negsuc b) e = record { le = le→leb a b (nltb→le b a (no_is e)) }

pub not_negative : (n : ℕ) → lt_z (pos n) (pos 0) ≡ true → ⊥
not_negative n e = let l : n < 0 = ltb→lt n 0 (yes_is e) in omega arith

pub test_le : (a b : ℤ) → le_z a b ≡ true → a ≤ℤ b
test_le a b e = record { le = yes_is e }

pub test_not_le : (a b : ℤ) → le_z a b ≡ false → b ≤ℤ a
test_not_le (pos a) (pos b) e = pos_le (NatL.le_of_lt (nleb→lt a b (no_is e)))
test_not_le (pos a) (negsuc b) e = record { le = tt }
test_not_le (negsuc a) (pos b) e = record { le = no_is e }
test_not_le (negsuc a) (negsuc b) e = record { le = le→leb a b (NatL.le_of_lt (nleb→lt b a (no_is e))) }

-- ---- sizes

pub abs_add : (a b : ℤ) → nat_abs (a +ℤ b) ≤ nat_abs a + nat_abs b
abs_add a b = by (one_zero (a +ℤ b))
  where
    by : (up (a +ℤ b) ≡ 0) ⊎ (down (a +ℤ b) ≡ 0) → nat_abs (a +ℤ b) ≤ nat_abs a + nat_abs b
    by (inl z) = omega (arith, abs_parts (a +ℤ b), abs_parts a, abs_parts b, add_parts a b)
    by (inr z) = omega (arith, abs_parts (a +ℤ b), abs_parts a, abs_parts b, add_parts a b)

pub abs_neg : (a : ℤ) → nat_abs (neg_ℤ a) ≡ nat_abs a
abs_neg (pos zero) = refl
abs_neg (pos (suc n)) = refl
abs_neg (negsuc n) = refl

pub abs_sub : (a b : ℤ) → nat_abs (a -ℤ b) ≤ nat_abs a + nat_abs b
abs_sub a b = omega (arith, abs_add a (neg_ℤ b), abs_neg b)

pub abs_mul : (a b : ℤ) → nat_abs (a *ℤ b) ≡ nat_abs a * nat_abs b
abs_mul (pos a) (pos b) = refl
abs_mul (pos a) (negsuc b) = abs_neg (pos (a * suc b))
abs_mul (negsuc a) (pos b) = abs_neg (pos (suc a * b))
abs_mul (negsuc a) (negsuc b) = refl
