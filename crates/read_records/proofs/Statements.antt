-- Whether a record is a statement, by its code, its row of the table and its passes.
use Prim.Native.Nat.{ℕ, zero, suc, ◌-◌}
use mathlib.Core.Path.{◌≡◌, refl, sym, ap, ap₂, subst, ◌∙◌}
use mathlib.Core.Bool.{Bool, true, false, ◌&&◌}
use mathlib.Core.List.{[]}
use native.Mathlib.Omega.{arith}
use denote.Enum.Bare.{sameb}
use lib.Dec.{T, leb}
use lib.ListN.{get_or}
use borrow.Author.Tests.{le-leb, lt-leb}
use Rattle.std.specs.Prelude.{Result, Ok, Err}
use Rattle.numbers.specs.Lists.{alike}
use Rattle.numbers.specs.Words.{between}
use Rattle.kernel.specs.declared.codes.Code.{Code}
use Rattle.kernel.specs.declared.codes.Code.TheVariants as C
use Rattle.kernel.specs.declared.codes.NoCode.{NoCode}
use Rattle.kernel.specs.contracts.codes.Code.{the_type}
use Rattle.kernel.specs.Named.{code, coded}
use Rattle.kernel.specs.File.{Rec, numbers, none, sayings, statement, loop_of}
use Rattle.kernel.specs.Reading.{Scope, table, holds, has_pass, statement_fits}
use Rattle.kernel.proofs.Named.{coded_is}
use Rattle.read_records.proofs.Tables.{in_table}

-- what has no code is outside
abbrev Stands : Result Code NoCode → Type 0
Stands (Ok c) = Unit
Stands (Err e) = ⊥

stands : {c : Code} {e : NoCode} → Err e ≡ Ok c → ⊥
stands h = subst Stands (sym h) tt

outside : (n : ℕ) {e : NoCode} → Err e ≡ coded n → between 1 11 n ≡ false
unfolding coded between
outside zero h = refl
outside (suc zero) h = absurd (stands h)
outside (suc (suc zero)) h = absurd (stands h)
outside (suc (suc (suc zero))) h = absurd (stands h)
outside (suc (suc (suc (suc zero)))) h = absurd (stands h)
outside (suc (suc (suc (suc (suc zero))))) h = absurd (stands h)
outside (suc (suc (suc (suc (suc (suc zero)))))) h = absurd (stands h)
outside (suc (suc (suc (suc (suc (suc (suc zero))))))) h = absurd (stands h)
outside (suc (suc (suc (suc (suc (suc (suc (suc zero)))))))) h = absurd (stands h)
outside (suc (suc (suc (suc (suc (suc (suc (suc (suc zero))))))))) h = absurd (stands h)
outside (suc (suc (suc (suc (suc (suc (suc (suc (suc (suc zero)))))))))) h = absurd (stands h)
outside (suc (suc (suc (suc (suc (suc (suc (suc (suc (suc (suc zero))))))))))) h = absurd (stands h)
outside (suc (suc (suc (suc (suc (suc (suc (suc (suc (suc (suc (suc n)))))))))))) h =
    let m = suc (suc (suc (suc (suc (suc (suc (suc (suc (suc (suc (suc n))))))))))) in
    ap₂ ◌&&◌ (le-leb 1 m (omega arith)) (lt-leb m 11 (omega arith))

pub fits_none : (c : Scope) (r : Rec) {e : NoCode} → Err e ≡ coded r.code → false ≡ statement_fits c r
unfolding statement_fits
fits_none c r h = sym (ap (λ b. b && alike (holds c) (get_or table (r.code - 1) []) (numbers r) && has_pass (statement r)) (outside r.code h))

clash : false ≡ true → ⊥
clash e = subst T (sym e) tt

-- every statement but a for has its pass
passes_but_for : (c : Code) (r : Rec) → sameb the_type c C.For ≡ false → has_pass (get_or sayings (code c) (λ r. none) r) ≡ true
unfolding code sayings has_pass
passes_but_for C.Set r h = refl
passes_but_for C.Copy r h = refl
passes_but_for C.Work r h = refl
passes_but_for C.Load r h = refl
passes_but_for C.Store r h = refl
passes_but_for C.Read r h = refl
passes_but_for C.Write r h = refl
passes_but_for C.For r h = absurd (clash (sym h))
passes_but_for C.If r h = refl
passes_but_for C.Else r h = refl
passes_but_for C.End r h = refl

passes_of_for : (c : Code) (r : Rec) → sameb the_type c C.For ≡ true → has_pass (get_or sayings (code c) (λ r. none) r) ≡ leb 1 (loop_of r).passes
unfolding code sayings has_pass
passes_of_for C.Set r h = absurd (clash h)
passes_of_for C.Copy r h = absurd (clash h)
passes_of_for C.Work r h = absurd (clash h)
passes_of_for C.Load r h = absurd (clash h)
passes_of_for C.Store r h = absurd (clash h)
passes_of_for C.Read r h = absurd (clash h)
passes_of_for C.Write r h = absurd (clash h)
passes_of_for C.For r h = refl
passes_of_for C.If r h = absurd (clash h)
passes_of_for C.Else r h = absurd (clash h)
passes_of_for C.End r h = absurd (clash h)

-- a record whose code is found
module _ (c : Scope) (r : Rec) {x : Code} (e : Ok x ≡ coded r.code) where
  abbrev rowed : Bool
  rowed = alike (holds c) (get_or table (code x - 1) []) (numbers r)

  by_code : statement_fits c r ≡ (rowed && has_pass (get_or sayings (code x) (λ r. none) r))
  unfolding statement_fits statement between
  by_code =
      let t = in_table x in
      ap (λ n. between 1 11 n && alike (holds c) (get_or table (n - 1) []) (numbers r) && has_pass (get_or sayings n (λ r. none) r)) (coded_is r.code x (sym e))
      ∙ ap (λ b. b && leb (code x) 11 && rowed && has_pass (get_or sayings (code x) (λ r. none) r)) (le-leb 1 (code x) t.0)
      ∙ ap (λ b. b && rowed && has_pass (get_or sayings (code x) (λ r. none) r)) (le-leb (code x) 11 t.1)

  pub fits_row : rowed ≡ false → false ≡ statement_fits c r
  fits_row f = sym (by_code ∙ ap (λ b. b && has_pass (get_or sayings (code x) (λ r. none) r)) f)

  pub fits_other : rowed ≡ true → sameb the_type x C.For ≡ false → true ≡ statement_fits c r
  fits_other f o = sym (by_code ∙ ap (λ b. b && has_pass (get_or sayings (code x) (λ r. none) r)) f ∙ passes_but_for x r o)

  pub fits_for : rowed ≡ true → sameb the_type x C.For ≡ true → leb 1 (loop_of r).passes ≡ statement_fits c r
  fits_for f o = sym (by_code ∙ ap (λ b. b && has_pass (get_or sayings (code x) (λ r. none) r)) f ∙ passes_of_for x r o)
