-- Each public contract leaves one answer: two texts that show the same are one.
use Prim.Native.Nat.{ℕ}
use mathlib.Core.Path.{◌≡◌, sym, ap, ◌∙◌}
use mathlib.Core.List.{List, ◌++◌}
use native.Mathlib.Omega.{arith}
use lib.ListN.{replicate}
use Rattle.line.specs.declared.Text.{Text}
use Rattle.line.specs.View.{Shows}
use Rattle.line.proofs.Texts.{ends}

pub one_text : {a b : Text} {t : List ℕ} → Shows a t → Shows b t → a ≡ b
one_text {a} {b} {t} x y =
    let from : a.from ≡ b.from = omega (arith, ends x, ends y) in
    let bytes : a.bytes ≡ b.bytes = x.bytes ∙ ap (λ n. replicate n 0 ++ t) from ∙ sym y.bytes in
    λ i. record { bytes = bytes i; from = from i }
