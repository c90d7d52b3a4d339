-- `numbers::over` meets its contract: in 64 bits every quotient of two signed words fits.
use Rattle.std.proofs.Common.{◌≡◌, ◌^◌, ap, ◌∙◌}
use lib.Signed.{quot_z}
use Rattle.numbers.specs.Bounds.{Small}
use Rattle.numbers.specs.Words.{signed, low32, over}
use Rattle.numbers.proofs.Signs.{back, fits, as_it_is, as_returned, small_signed, small_quot, not_zero}
use Rattle.numbers.proofs.over.Goals as goal

pub nonzero_div-signed : goal.nonzero_div-signed
nonzero_div-signed c =
    let e : back c.signed.result ≡ signed c.args.a = as_returned {z = c.signed.result} c.signed.type_inv ∙ c.signed.ensures in
    let h : Small (2 ^ 31) (back c.signed.result) = rw e (small_signed c.ranges.a.fits) in
    (rw c.signed-2.ensures (not_zero c.requires c.ranges.b.fits), fits (small_quot _ h) tt)

pub returns : goal.returns
unfolding over
returns c =
    let ea : back c.signed.result ≡ signed c.args.a = as_returned {z = c.signed.result} c.signed.type_inv ∙ c.signed.ensures in
    let eb : back c.signed-2.result ≡ signed c.args.b = as_returned {z = c.signed-2.result} c.signed-2.type_inv ∙ c.signed-2.ensures in
    c.low32.ensures ∙ ap low32 ((λ i. back (quot_z (ea i) (eb i))) ∙ as_it_is (small_quot (signed c.args.b) (small_signed c.ranges.a.fits)) tt)
