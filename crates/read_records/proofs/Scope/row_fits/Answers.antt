-- `Scope::row_fits` meets its contract. The invariant: what the fields left answer is what all answer.
use mathlib.Core.Path.{◌≡◌, refl, sym, ap, ◌∙◌}
use mathlib.Core.List.{List, [], ◌∷◌}
use native.Mathlib.Omega.{arith}
use Prim.Native.Nat.{ℕ}
use lib.ListN.{length, get_or}
use Rattle.std.proofs.Common.{rules}
use Rattle.numbers.proofs.Rows.{test_goes_on, test_fails, test_passes}
use Rattle.numbers.specs.Lists.{alike}
use Rattle.kernel.specs.File as File
use Rattle.kernel.specs.Reading.{unused, holds}
use Rattle.parts.specs.declared.Rec.{Rec}
use Rattle.read_records.specs.View.{scope, row, kind_at}
use Rattle.read_records.proofs.Tables.{row_8, four}
use Rattle.read_records.proofs.Scope.row_fits.Invariants.{kinds}
use Rattle.read_records.proofs.Scope.row_fits.Goals.{After-holds}
use Rattle.read_records.proofs.Scope.row_fits.Goals as goal

-- the record's numbers
abbrev fields : Rec → List ℕ
fields r = r.code ∷ r.p ∷ r.q ∷ r.k ∷ get_or r.x 0 0 ∷ get_or r.x 1 0 ∷ get_or r.x 2 0 ∷ get_or r.x 3 0 ∷ []

-- a field's test, as the code answers it
tested : (c : After-holds)
    → holds (scope c.args.self) (get_or (kinds c.args.code) c.loop-field.field unused) (get_or (fields c.args.r) c.loop-field.field 0) ≡ c.holds.result
unfolding kind_at
tested c =
    ap (λ k. holds (scope c.args.self) k (get_or (fields c.args.r) c.loop-field.field 0)) (sym c.kind.ensures) ∙ sym c.holds.ensures

pub loop-field-init : goal.loop-field-init
loop-field-init c = refl

pub returns-then-not-holds : goal.returns-then-not-holds
unfolding row File.numbers
returns-then-not-holds c =
    let h = c.loop-field-test.true in
    let eight : length c.args.r.x ≡ 4 = search rules in
    sym (ap (λ x. alike (holds (scope c.args.self)) (kinds c.args.code) (c.args.r.code ∷ c.args.r.p ∷ c.args.r.q ∷ c.args.r.k ∷ x)) (sym (four c.args.r.x eight))
    ∙ test_fails (holds (scope c.args.self)) (kinds c.args.code) (fields c.args.r) c.loop-field.field unused 0
    (omega (arith, row_8 c.args.code, h)) h c.loop-field.invariant (tested (goal.at.returns-then-not-holds c).After-holds ∙ c.if-not-holds.true))

pub loop-field-preserved : goal.loop-field-preserved
loop-field-preserved c =
    let h = c.loop-field-test.true in
    test_goes_on (holds (scope c.args.self)) (kinds c.args.code) (fields c.args.r) c.loop-field.field unused 0
    (omega (arith, row_8 c.args.code, h)) h c.loop-field.invariant (tested (goal.at.loop-field-preserved c).After-holds ∙ c.if-not-holds.false)

pub returns : goal.returns
unfolding row File.numbers
returns c =
    let eight : length c.args.r.x ≡ 4 = search rules in
    sym (ap (λ x. alike (holds (scope c.args.self)) (kinds c.args.code) (c.args.r.code ∷ c.args.r.p ∷ c.args.r.q ∷ c.args.r.k ∷ x)) (sym (four c.args.r.x eight))
    ∙ test_passes (holds (scope c.args.self)) (kinds c.args.code) (fields c.args.r) c.loop-field.field
    (omega (arith, row_8 c.args.code, c.loop-field-test.false)) c.loop-field-test.false c.loop-field.invariant)
