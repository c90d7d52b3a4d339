-- `parts::passes` meets its contract: in 64 bits nothing is lost.
use mathlib.Core.Path.{◌≡◌, ◌∙◌}
use Prim.Native.Nat.{ℕ, ◌^◌, ◌<◌}
use native.Mathlib.Nat as NatL
use lib.IntN.{ℤ, ◌-ℤ◌}
use Rattle.numbers.specs.Words.{signed}
use Rattle.numbers.specs.Bounds.{Small}
use Rattle.numbers.proofs.Signs.{small_signed}
use Rattle.kernel.specs.File.{whole_steps}
use Rattle.parts.proofs.Turns.{sub_fits, quot_fits, mul_fits, at_zero, at_negative, at_broken, at_whole, cast_fits}
use Rattle.parts.proofs.passes.Goals as goal

-- what a call of `signed` gave
small : {w : ℕ} {z : ℤ} → z ≡ signed w → w < 2 ^ 32 → Small (2 ^ 31) z
small e h = rw e (small_signed h)

pub overflow_sub-d : goal.overflow_sub-d
overflow_sub-d c = sub_fits (small c.signed.ensures c.ranges.q.fits) (small c.signed-2.ensures c.ranges.p.fits)

pub returns-then-s-eq0 : goal.returns-then-s-eq0
returns-then-s-eq0 c = at_zero (small c.signed.ensures c.ranges.q.fits) (small c.signed-2.ensures c.ranges.p.fits) (small c.signed-s.ensures c.ranges.k.fits) c.if-s-eq0.true ∙ (λ i. whole_steps (c.signed.ensures i -ℤ c.signed-2.ensures i) (c.signed-s.ensures i))

pub nonzero_div-n : goal.nonzero_div-n
nonzero_div-n c = (NatL.pos_of_ne-zero c.if-s-eq0.false, quot_fits (small c.signed.ensures c.ranges.q.fits) (small c.signed-2.ensures c.ranges.p.fits) (small c.signed-s.ensures c.ranges.k.fits))

pub returns-then-n-lt0 : goal.returns-then-n-lt0
returns-then-n-lt0 c = at_negative (small c.signed.ensures c.ranges.q.fits) (small c.signed-2.ensures c.ranges.p.fits) (small c.signed-s.ensures c.ranges.k.fits) c.if-n-lt0.true ∙ (λ i. whole_steps (c.signed.ensures i -ℤ c.signed-2.ensures i) (c.signed-s.ensures i))

pub overflow_mul-n : goal.overflow_mul-n
overflow_mul-n c = mul_fits (small c.signed.ensures c.ranges.q.fits) (small c.signed-2.ensures c.ranges.p.fits) (small c.signed-s.ensures c.ranges.k.fits)

pub returns-then-n-s : goal.returns-then-n-s
returns-then-n-s c = at_broken (small c.signed.ensures c.ranges.q.fits) (small c.signed-2.ensures c.ranges.p.fits) (small c.signed-s.ensures c.ranges.k.fits) c.if-n-s.true ∙ (λ i. whole_steps (c.signed.ensures i -ℤ c.signed-2.ensures i) (c.signed-s.ensures i))

pub overflow_cast-result : goal.overflow_cast-result
overflow_cast-result c = cast_fits (small c.signed.ensures c.ranges.q.fits) (small c.signed-2.ensures c.ranges.p.fits) (small c.signed-s.ensures c.ranges.k.fits) c.if-n-lt0.false

pub returns : goal.returns
returns c = at_whole (small c.signed.ensures c.ranges.q.fits) (small c.signed-2.ensures c.ranges.p.fits) (small c.signed-s.ensures c.ranges.k.fits) c.if-n-lt0.false c.if-n-s.false ∙ (λ i. whole_steps (c.signed.ensures i -ℤ c.signed-2.ensures i) (c.signed-s.ensures i))
