-- `read_records::array_fits` meets its contract: a test of the code for each of the definition's.
use mathlib.Core.Path.{◌≡◌, sym, ap, ◌∙◌}
use mathlib.Core.Bool.{not, ◌&&◌, ◌||◌}
use lib.Dec.{eqb, ltb}
use lib.IntN.{pos, ◌+ℤ◌, ◌*ℤ◌}
use lib.ListN.{get_or, take, drop, length-drop}
use Rattle.std.proofs.Math.Seq.{take-length}
use Prim.Native.Nat.{◌-◌}
use Rattle.numbers.specs.Words.{signed, between, within, inside}
use Rattle.kernel.specs.Reading.{zeros}
use Rattle.read_records.proofs.Tests.{by_then, by_else}
use Rattle.read_records.proofs.Arrays.{tested, counted, in_turn}
use Rattle.read_records.proofs.array_fits.Goals.{Joined-zeros, then-sided, else-sided, then-between, else-between, then-between-2, else-between-2, then-a-ne0, else-a-ne0, then-near, else-near, then-zeros, else-zeros}
use Rattle.read_records.proofs.array_fits.Goals as goal

-- what the tests before the last index came to
met : (c : Joined-zeros) → c.if-zeros.value ≡ tested c.args.a
met c =
    let a = c.args.a in
    let v1 : c.if-sided.value ≡ ((eqb a.code 1 || eqb a.code 2) && between 1 4096 a.p) = elim c.if-sided.branch [
      | then-sided w ↦ by_then _ (w.value-is ∙ w.between.ensures) (sym c.sided.ensures ∙ w.if-sided.true)
      | else-sided w ↦ by_else _ (w.value-is ∙ c.sided.ensures) (sym c.sided.ensures ∙ w.if-sided.false)
    ] in
    let v2 : c.if-between.value ≡ (c.if-sided.value && between 1 a.p a.k) = elim c.if-between.branch [
      | then-between w ↦ by_then _ (w.value-is ∙ w.between-then-between.ensures) w.if-between.true
      | else-between w ↦ by_else _ w.value-is w.if-between.false
    ] in
    let v3 : c.if-between-2.value ≡ (c.if-between.value && not (eqb (get_or a.x 0 0) 0)) = elim c.if-between-2.branch [
      | then-between-2 w ↦ by_then _ w.value-is w.if-between-2.true
      | else-between-2 w ↦ by_else _ w.value-is w.if-between-2.false
    ] in
    let v4 : c.if-a-ne0.value ≡ (c.if-between-2.value && within 4096 (signed (get_or a.x 0 0))) = elim c.if-a-ne0.branch [
      | then-a-ne0 w ↦ by_then _ (w.value-is ∙ w.near.ensures) w.if-a-ne0.true
      | else-a-ne0 w ↦ by_else _ w.value-is w.if-a-ne0.false
    ] in
    let v5 : c.if-near.value ≡ (c.if-a-ne0.value && zeros (drop 1 a.x)) = elim c.if-near.branch [
      | then-near w ↦ by_then _ (w.value-is ∙ w.zeros.ensures ∙ ap zeros (ap (λ n. take n (drop 1 a.x)) (sym (length-drop 1 a.x)) ∙ take-length (drop 1 a.x))) w.if-near.true
      | else-near w ↦ by_else _ w.value-is w.if-near.false
    ] in
    let v6 : c.if-zeros.value ≡ (c.if-near.value && ltb a.q a.p) = elim c.if-zeros.branch [
      | then-zeros w ↦ by_then _ w.value-is w.if-zeros.true
      | else-zeros w ↦ by_else _ w.value-is w.if-zeros.false
    ] in
    v6 ∙ ap (λ b. b && ltb a.q a.p) (v5 ∙ ap (λ b. b && zeros (drop 1 a.x)) (v4 ∙ ap (λ b. b && within 4096 (signed (get_or a.x 0 0))) (v3 ∙ ap (λ b. b && not (eqb (get_or a.x 0 0) 0)) (v2 ∙ ap (λ b. b && between 1 a.p a.k) v1))))

pub last_inside-requires : goal.last_inside-requires
last_inside-requires c = counted c.args.a (sym (met (goal.at.last_inside-requires c).Joined-zeros) ∙ c.if-a.true)

pub returns-then-a : goal.returns-then-a
returns-then-a c =
    let a = c.args.a in
    c.last_inside.ensures
    ∙ ap (λ b. b && inside a.p (pos a.q +ℤ signed (get_or a.x 0 0) *ℤ pos (a.k - 1))) (sym c.if-a.true ∙ met (goal.at.returns-then-a c).Joined-zeros)
    ∙ in_turn a

pub returns-else-a : goal.returns-else-a
returns-else-a c =
    let a = c.args.a in
    c.if-a.false
    ∙ ap (λ b. b && inside a.p (pos a.q +ℤ signed (get_or a.x 0 0) *ℤ pos (a.k - 1))) (sym c.if-a.false ∙ met (goal.at.returns-else-a c).Joined-zeros)
    ∙ in_turn a
