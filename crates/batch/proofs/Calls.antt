-- The reply to a call that is none.
use Prim.Native.Nat.{ℕ, zero, suc}
use mathlib.Core.Path.{◌≡◌, refl}
use mathlib.Core.List.{List}
use Rattle.batch.specs.Reply.{NoCall, Replies}

pub no_call : (call : ℕ) (file input before : List ℕ) (word : ℕ) (after : List ℕ) → (call ≡ 1 → ⊥) → (call ≡ 2 → ⊥) → (call ≡ 3 → ⊥) → (call ≡ 4 → ⊥) → (call ≡ 5 → ⊥)
    → NoCall before word after → Replies call file input before word after
unfolding Replies
no_call zero file input before word after a b c d e h = h
no_call (suc zero) file input before word after a b c d e h = absurd (a refl)
no_call (suc (suc zero)) file input before word after a b c d e h = absurd (b refl)
no_call (suc (suc (suc zero))) file input before word after a b c d e h = absurd (c refl)
no_call (suc (suc (suc (suc zero)))) file input before word after a b c d e h = absurd (d refl)
no_call (suc (suc (suc (suc (suc zero))))) file input before word after a b c d e h = absurd (e refl)
no_call (suc (suc (suc (suc (suc (suc n)))))) file input before word after a b c d e h = h
