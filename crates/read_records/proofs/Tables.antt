-- The code's table against the definition's.
use Prim.Native.Nat.{ℕ, ◌-◌, ◌≤◌}
use mathlib.Core.Path.{◌≡◌, refl, sym, ap, ◌∙◌}
use mathlib.Core.List.{List, [], ◌∷◌, map}
use native.Mathlib.Omega.{arith}
use lib.ListN.{length, get_or, get_or-map}
use Rattle.kernel.specs.declared.codes.Code.{Code}
use Rattle.kernel.specs.declared.codes.Code.TheVariants as C
use Rattle.kernel.specs.Named.{code}
use Rattle.kernel.specs.Reading as Reading
use Rattle.kernel.specs.Reading.{table}
use Rattle.read_records.specs.declared.Kind.{Kind}
use Rattle.read_records.specs.declared.Kind.TheVariants.{Unused}
use Rattle.read_records.specs.View.{kind_of, kind_at, IsTable}

pub entry : (rows : List (List Kind)) → IsTable rows → (code field : ℕ) → kind_of (get_or (get_or rows (code - 1) []) field Unused) ≡ kind_at code field
unfolding kind_of kind_at
entry rows e code field =
    sym (get_or-map kind_of (get_or rows (code - 1) []) field Unused)
    ∙ ap (λ (r : List Reading.Kind). get_or r field Reading.unused) (sym (get_or-map (map kind_of) rows (code - 1) []) ∙ ap (λ t. get_or t (code - 1) []) e)

-- a code has a row
pub in_table : (c : Code) → (1 ≤ code c) × (code c ≤ 11)
unfolding code
in_table C.Set = (omega arith, omega arith)
in_table C.Copy = (omega arith, omega arith)
in_table C.Work = (omega arith, omega arith)
in_table C.Load = (omega arith, omega arith)
in_table C.Store = (omega arith, omega arith)
in_table C.Read = (omega arith, omega arith)
in_table C.Write = (omega arith, omega arith)
in_table C.For = (omega arith, omega arith)
in_table C.If = (omega arith, omega arith)
in_table C.Else = (omega arith, omega arith)
in_table C.End = (omega arith, omega arith)

-- every row has 8 fields
pub row_8 : (c : Code) → length (get_or table (code c - 1) []) ≡ 8
unfolding code table
row_8 C.Set = refl
row_8 C.Copy = refl
row_8 C.Work = refl
row_8 C.Load = refl
row_8 C.Store = refl
row_8 C.Read = refl
row_8 C.Write = refl
row_8 C.For = refl
row_8 C.If = refl
row_8 C.Else = refl
row_8 C.End = refl

-- four numbers are a row of four
pub four : (x : List ℕ) → length x ≡ 4 → get_or x 0 0 ∷ get_or x 1 0 ∷ get_or x 2 0 ∷ get_or x 3 0 ∷ [] ≡ x
four [] h = absurd (omega arith)
four (a ∷ []) h = absurd (omega arith)
four (a ∷ b ∷ []) h = absurd (omega arith)
four (a ∷ b ∷ c ∷ []) h = absurd (omega arith)
four (a ∷ b ∷ c ∷ d ∷ []) h = refl
four (a ∷ b ∷ c ∷ d ∷ e ∷ x) h = absurd (omega arith)
