-- `forms::Form::same` meets its contract: the code compares what the definition does, the constants and each coefficient.
use mathlib.Core.Path.{◌≡◌, refl, ap, ap₂, ◌∙◌}
use mathlib.Core.Bool.{◌&&◌}
use mathlib.Core.List.{List, [], ◌∷◌}
use lib.IntN.{ℤ, pos}
use lib.ListN.{length, get_or}
use native.Mathlib.Omega.{arith}
use Rattle.std.proofs.Common.{rules}
use Rattle.numbers.specs.Words.{equal}
use Rattle.numbers.specs.Lists.{alike}
use Rattle.forms.specs.Form as F
use Rattle.forms.proofs.Shared.{eq_is, rows_eq_is}
use Rattle.forms.proofs.Form.same.Goals as goal

-- two rows of four are one where each of the four is
row_is : (xs ys : List ℤ) → length xs ≡ 4 → length ys ≡ 4 → get_or xs 0 (pos 0) ≡ get_or ys 0 (pos 0) → get_or xs 1 (pos 0) ≡ get_or ys 1 (pos 0)
    → get_or xs 2 (pos 0) ≡ get_or ys 2 (pos 0) → get_or xs 3 (pos 0) ≡ get_or ys 3 (pos 0) → xs ≡ ys
row_is (a ∷ b ∷ c ∷ d ∷ []) (x ∷ y ∷ z ∷ u ∷ []) l m e f g h = λ i. e i ∷ f i ∷ g i ∷ h i ∷ []
row_is xs ys l m e f g h = absurd (omega arith)

pub returns : goal.returns
unfolding F.same
returns c =
    let s = c.args in
    let four : length s.other.x ≡ 4 = search rules in
    c.eq.ensures ∙ ap₂ ◌&&◌ (eq_is s.self.k _) (rows_eq_is s.self.x _)
    ∙ ap₂ (λ k xs. equal s.self.k k && alike equal s.self.x xs) (search rules) (row_is _ s.other.x (search rules) four (search rules) (search rules) (search rules) (search rules))
