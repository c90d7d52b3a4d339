-- The ring laws of ℤ that the library lacks, by induction one up and one down; `simp ring` brings both sides of an equation to one form.
use Rattle.std.proofs.Common.{◌≡◌, ℕ, zero, suc, ◌*◌, ℤ, pos, negsuc, ◌+ℤ◌, ◌-ℤ◌, ◌*ℤ◌, neg_ℤ, sym, refl, ap, ◌∙◌}
use lib.IntN.{suc_ℤ, pred_ℤ, +ℤ_idl, +ℤ_idr, +ℤ_comm, +ℤ_assoc, suc_ℤ-+ℤ, pred_ℤ-+ℤ, zero-*ℤ, *ℤ-zero, *ℤ_comm, suc_ℤ-*ℤ, pred_ℤ-*ℤ, neg_ℤ-+ℤ, neg_ℤ-neg_ℤ, +ℤ-neg_ℤ_cancel}

-- induction by one more and one less
pub by_one : (P : ℤ → Type 0) → P (pos 0) → ((k : ℤ) → P k → P (suc_ℤ k)) → ((k : ℤ) → P k → P (pred_ℤ k)) → (k : ℤ) → P k
by_one P z s p (pos zero) = z
by_one P z s p (pos (suc n)) = s (pos n) (by_one P z s p (pos n))
by_one P z s p (negsuc zero) = p (pos 0) z
by_one P z s p (negsuc (suc n)) = p (negsuc n) (by_one P z s p (negsuc n))

pub +ℤ_left_comm : (a b c : ℤ) → a +ℤ (b +ℤ c) ≡ b +ℤ (a +ℤ c)
+ℤ_left_comm a b c = sym (+ℤ_assoc a b c) ∙ ap (λ (x : ℤ). x +ℤ c) (+ℤ_comm a b) ∙ +ℤ_assoc b a c

-- the same number added on both sides
pub +ℤ_cancel : (p a b : ℤ) → a +ℤ p ≡ b +ℤ p → a ≡ b
+ℤ_cancel p a b e = sym (+ℤ-neg_ℤ_cancel a p) ∙ ap (λ (x : ℤ). x -ℤ p) e ∙ +ℤ-neg_ℤ_cancel b p

-- (a + b) * c
pub distrib_r : (a b c : ℤ) → (a +ℤ b) *ℤ c ≡ a *ℤ c +ℤ b *ℤ c
distrib_r a b c = by_one (λ (a : ℤ). (a +ℤ b) *ℤ c ≡ a *ℤ c +ℤ b *ℤ c)
    (ap (λ (x : ℤ). x *ℤ c) (+ℤ_idl b) ∙ sym (ap (λ (x : ℤ). x +ℤ b *ℤ c) (zero-*ℤ c) ∙ +ℤ_idl (b *ℤ c)))
    (λ a h. ap (λ (x : ℤ). x *ℤ c) (suc_ℤ-+ℤ a b) ∙ suc_ℤ-*ℤ (a +ℤ b) c ∙ ap (λ (x : ℤ). x +ℤ c) h ∙ swap (a *ℤ c) (b *ℤ c) c ∙ ap (λ (x : ℤ). x +ℤ b *ℤ c) (sym (suc_ℤ-*ℤ a c)))
    (λ a h. ap (λ (x : ℤ). x *ℤ c) (pred_ℤ-+ℤ a b) ∙ pred_ℤ-*ℤ (a +ℤ b) c ∙ ap (λ (x : ℤ). x -ℤ c) h ∙ swap (a *ℤ c) (b *ℤ c) (neg_ℤ c) ∙ ap (λ (x : ℤ). x +ℤ b *ℤ c) (sym (pred_ℤ-*ℤ a c)))
    a
  where
    swap : (x y z : ℤ) → (x +ℤ y) +ℤ z ≡ (x +ℤ z) +ℤ y
    swap x y z = +ℤ_assoc x y z ∙ ap (λ (u : ℤ). x +ℤ u) (+ℤ_comm y z) ∙ sym (+ℤ_assoc x z y)

pub distrib_l : (a b c : ℤ) → a *ℤ (b +ℤ c) ≡ a *ℤ b +ℤ a *ℤ c
distrib_l a b c = *ℤ_comm a (b +ℤ c) ∙ distrib_r b c a ∙ ap (λ (x : ℤ). x +ℤ c *ℤ a) (*ℤ_comm b a) ∙ ap (λ (x : ℤ). a *ℤ b +ℤ x) (*ℤ_comm c a)

neg_pos_mul : (n : ℕ) (b : ℤ) → neg_ℤ (pos n) *ℤ b ≡ neg_ℤ (pos n *ℤ b)
neg_pos_mul zero b = zero-*ℤ b ∙ sym (ap neg_ℤ (zero-*ℤ b))
neg_pos_mul (suc n) (pos b) = refl
neg_pos_mul (suc n) (negsuc b) = sym (neg_ℤ-neg_ℤ (pos (suc n * suc b)))

pub neg_mul : (a b : ℤ) → neg_ℤ a *ℤ b ≡ neg_ℤ (a *ℤ b)
neg_mul (pos n) b = neg_pos_mul n b
neg_mul (negsuc n) (pos b) = sym (neg_ℤ-neg_ℤ (pos (suc n * b)))
neg_mul (negsuc n) (negsuc b) = refl

pub mul_neg : (a b : ℤ) → a *ℤ neg_ℤ b ≡ neg_ℤ (a *ℤ b)
mul_neg a b = *ℤ_comm a (neg_ℤ b) ∙ neg_mul b a ∙ ap neg_ℤ (*ℤ_comm b a)

pub *ℤ_assoc : (a b c : ℤ) → (a *ℤ b) *ℤ c ≡ a *ℤ (b *ℤ c)
*ℤ_assoc a b c = by_one (λ (a : ℤ). (a *ℤ b) *ℤ c ≡ a *ℤ (b *ℤ c))
    (ap (λ (x : ℤ). x *ℤ c) (zero-*ℤ b) ∙ zero-*ℤ c ∙ sym (zero-*ℤ (b *ℤ c)))
    (λ a h. ap (λ (x : ℤ). x *ℤ c) (suc_ℤ-*ℤ a b) ∙ distrib_r (a *ℤ b) b c ∙ ap (λ (x : ℤ). x +ℤ b *ℤ c) h ∙ sym (suc_ℤ-*ℤ a (b *ℤ c)))
    (λ a h. ap (λ (x : ℤ). x *ℤ c) (pred_ℤ-*ℤ a b) ∙ distrib_r (a *ℤ b) (neg_ℤ b) c ∙ ap (λ (x : ℤ). (a *ℤ b) *ℤ c +ℤ x) (neg_mul b c) ∙ ap (λ (x : ℤ). x -ℤ b *ℤ c) h ∙ sym (pred_ℤ-*ℤ a (b *ℤ c)))
    a

pub *ℤ_left_comm : (a b c : ℤ) → a *ℤ (b *ℤ c) ≡ b *ℤ (a *ℤ c)
*ℤ_left_comm a b c = sym (*ℤ_assoc a b c) ∙ ap (λ (x : ℤ). x *ℤ c) (*ℤ_comm a b) ∙ *ℤ_assoc b a c

pub ruleset ring = (distrib_r, distrib_l, +ℤ_assoc, +ℤ_comm, +ℤ_left_comm, *ℤ_assoc, *ℤ_comm, *ℤ_left_comm, +ℤ_idl, +ℤ_idr, zero-*ℤ, *ℤ-zero, neg_mul, mul_neg, neg_ℤ-+ℤ, neg_ℤ-neg_ℤ)
