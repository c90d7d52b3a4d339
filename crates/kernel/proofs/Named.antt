-- The code's names have the numbers of document 01.
use Rattle.std.specs.Prelude.{Result, Ok, Err}
use Rattle.kernel.specs.declared.codes.Code.{Code}
use Rattle.kernel.specs.declared.codes.Rule.{Rule}
use Rattle.kernel.specs.declared.codes.Rule.TheVariants as R
use Rattle.kernel.specs.declared.codes.NoCode.{NoCode}
use Rattle.kernel.specs.Derivation as D
use mathlib.Core.Path.{◌≡◌, refl, sym, ap, subst}
use Prim.Native.Nat.{ℕ, zero, suc, ◌≤◌}
use native.Mathlib.Omega.{arith}
use lib.ListN.{get_or}
use Rattle.kernel.specs.File.{Rec, Statement, none, sayings, statement}
use Rattle.kernel.specs.Named.{sided, code, coded, rule, rule_number, ruled, no_code}

pub sided_else : (w : ℕ) → (1 ≤ w → w ≤ 2 → ⊥) → sided w ≡ Err no_code
unfolding sided
sided_else zero h = refl
sided_else (suc zero) h = absurd (h (omega arith) (omega arith))
sided_else (suc (suc zero)) h = absurd (h (omega arith) (omega arith))
sided_else (suc (suc (suc n))) h = refl

pub coded_else : (w : ℕ) → (1 ≤ w → w ≤ 11 → ⊥) → coded w ≡ Err no_code
unfolding coded
coded_else zero h = refl
coded_else (suc zero) h = absurd (h (omega arith) (omega arith))
coded_else (suc (suc zero)) h = absurd (h (omega arith) (omega arith))
coded_else (suc (suc (suc zero))) h = absurd (h (omega arith) (omega arith))
coded_else (suc (suc (suc (suc zero)))) h = absurd (h (omega arith) (omega arith))
coded_else (suc (suc (suc (suc (suc zero))))) h = absurd (h (omega arith) (omega arith))
coded_else (suc (suc (suc (suc (suc (suc zero)))))) h = absurd (h (omega arith) (omega arith))
coded_else (suc (suc (suc (suc (suc (suc (suc zero))))))) h = absurd (h (omega arith) (omega arith))
coded_else (suc (suc (suc (suc (suc (suc (suc (suc zero)))))))) h = absurd (h (omega arith) (omega arith))
coded_else (suc (suc (suc (suc (suc (suc (suc (suc (suc zero))))))))) h = absurd (h (omega arith) (omega arith))
coded_else (suc (suc (suc (suc (suc (suc (suc (suc (suc (suc zero)))))))))) h = absurd (h (omega arith) (omega arith))
coded_else (suc (suc (suc (suc (suc (suc (suc (suc (suc (suc (suc zero))))))))))) h = absurd (h (omega arith) (omega arith))
coded_else (suc (suc (suc (suc (suc (suc (suc (suc (suc (suc (suc (suc n)))))))))))) h = refl

pub ruled_else : (w : ℕ) → (1 ≤ w → w ≤ 10 → ⊥) → ruled w ≡ Err no_code
unfolding ruled
ruled_else zero h = refl
ruled_else (suc zero) h = absurd (h (omega arith) (omega arith))
ruled_else (suc (suc zero)) h = absurd (h (omega arith) (omega arith))
ruled_else (suc (suc (suc zero))) h = absurd (h (omega arith) (omega arith))
ruled_else (suc (suc (suc (suc zero)))) h = absurd (h (omega arith) (omega arith))
ruled_else (suc (suc (suc (suc (suc zero))))) h = absurd (h (omega arith) (omega arith))
ruled_else (suc (suc (suc (suc (suc (suc zero)))))) h = absurd (h (omega arith) (omega arith))
ruled_else (suc (suc (suc (suc (suc (suc (suc zero))))))) h = absurd (h (omega arith) (omega arith))
ruled_else (suc (suc (suc (suc (suc (suc (suc (suc zero)))))))) h = absurd (h (omega arith) (omega arith))
ruled_else (suc (suc (suc (suc (suc (suc (suc (suc (suc zero))))))))) h = absurd (h (omega arith) (omega arith))
ruled_else (suc (suc (suc (suc (suc (suc (suc (suc (suc (suc zero)))))))))) h = absurd (h (omega arith) (omega arith))
ruled_else (suc (suc (suc (suc (suc (suc (suc (suc (suc (suc (suc n))))))))))) h = refl

-- ---- and back: the number of what a number stands for

abbrev number_of : Result Code NoCode → ℕ
number_of (Ok c) = code c
number_of (Err e) = 0

abbrev stands : Result Code NoCode → Type 0
stands (Ok c) = Unit
stands (Err e) = ⊥

nothing_stands : {c : Code} → Err no_code ≡ Ok c → ⊥
nothing_stands e = subst stands (sym e) tt

pub coded_is : (w : ℕ) (c : Code) → coded w ≡ Ok c → w ≡ code c
unfolding coded code
coded_is zero c e = absurd (nothing_stands e)
coded_is (suc zero) c e = ap number_of e
coded_is (suc (suc zero)) c e = ap number_of e
coded_is (suc (suc (suc zero))) c e = ap number_of e
coded_is (suc (suc (suc (suc zero)))) c e = ap number_of e
coded_is (suc (suc (suc (suc (suc zero))))) c e = ap number_of e
coded_is (suc (suc (suc (suc (suc (suc zero)))))) c e = ap number_of e
coded_is (suc (suc (suc (suc (suc (suc (suc zero))))))) c e = ap number_of e
coded_is (suc (suc (suc (suc (suc (suc (suc (suc zero)))))))) c e = ap number_of e
coded_is (suc (suc (suc (suc (suc (suc (suc (suc (suc zero))))))))) c e = ap number_of e
coded_is (suc (suc (suc (suc (suc (suc (suc (suc (suc (suc zero)))))))))) c e = ap number_of e
coded_is (suc (suc (suc (suc (suc (suc (suc (suc (suc (suc (suc zero))))))))))) c e = ap number_of e
coded_is (suc (suc (suc (suc (suc (suc (suc (suc (suc (suc (suc (suc n)))))))))))) c e = absurd (nothing_stands e)

-- a rule's number stands for that rule
pub number_ruled : (r : Rule) → ruled (rule_number r) ≡ Ok r
unfolding rule_number ruled
number_ruled R.Same = refl
number_ruled R.Read = refl
number_ruled R.Fill = refl
number_ruled R.Use = refl
number_ruled R.Move = refl
number_ruled R.Write = refl
number_ruled R.For = refl
number_ruled R.If = refl
number_ruled R.Else = refl
number_ruled R.End = refl

-- and does so in document 01
pub number_is : (r : Rule) → D.rule (rule_number r) ≡ rule r
unfolding rule_number D.rule rule
number_is R.Same = refl
number_is R.Read = refl
number_is R.Fill = refl
number_is R.Use = refl
number_is R.Move = refl
number_is R.Write = refl
number_is R.For = refl
number_is R.If = refl
number_is R.Else = refl
number_is R.End = refl

-- a number that stands for no code says nothing
pub says_nothing : (r : Rec) → coded r.code ≡ Err no_code → statement r ≡ none
unfolding statement coded sayings
says_nothing r e = by r.code e
  where
    by : (n : ℕ) → coded n ≡ Err no_code → get_or {A = Rec → Statement} sayings n (λ r. none) r ≡ none
    by zero e = refl
    by (suc zero) e = absurd (nothing_stands (sym e))
    by (suc (suc zero)) e = absurd (nothing_stands (sym e))
    by (suc (suc (suc zero))) e = absurd (nothing_stands (sym e))
    by (suc (suc (suc (suc zero)))) e = absurd (nothing_stands (sym e))
    by (suc (suc (suc (suc (suc zero))))) e = absurd (nothing_stands (sym e))
    by (suc (suc (suc (suc (suc (suc zero)))))) e = absurd (nothing_stands (sym e))
    by (suc (suc (suc (suc (suc (suc (suc zero))))))) e = absurd (nothing_stands (sym e))
    by (suc (suc (suc (suc (suc (suc (suc (suc zero)))))))) e = absurd (nothing_stands (sym e))
    by (suc (suc (suc (suc (suc (suc (suc (suc (suc zero))))))))) e = absurd (nothing_stands (sym e))
    by (suc (suc (suc (suc (suc (suc (suc (suc (suc (suc zero)))))))))) e = absurd (nothing_stands (sym e))
    by (suc (suc (suc (suc (suc (suc (suc (suc (suc (suc (suc zero))))))))))) e = absurd (nothing_stands (sym e))
    by (suc (suc (suc (suc (suc (suc (suc (suc (suc (suc (suc (suc n)))))))))))) e = refl
