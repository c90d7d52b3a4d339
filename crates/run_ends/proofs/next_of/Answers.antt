-- `run_ends::next_of` meets its contract: the tree at the record says which blocks stand before the next statement.
use Prim.Native.Nat.{ℕ, ◌+◌, ◌<◌, ◌≤◌}
use mathlib.Core.Path.{◌≡◌, refl, sym, ap, ◌∙◌}
use mathlib.Core.List.{List}
use native.Mathlib.Omega.{arith}
use lib.ListN.{length}
use Rattle.forms.specs.Code.{loop}
use Rattle.forms.specs.declared.Loop.{Loop}
use Rattle.kernel.specs.File.{Rec, for, if}
use Rattle.kernel.specs.Blocks.{said, at_an_else, at_an_end}
use Rattle.kernel.specs.Guarantees.{Begins}
use Rattle.kernel.specs.Trees.{tree_at, after_first}
use Rattle.parts.specs.declared.RecordTable.{RecordTable}
use Rattle.parts.specs.declared.statements.Statement.{Statement}
use Rattle.parts.specs.declared.statements.Statement.TheVariants.{Does, For, If, Else, End}
use Rattle.parts.specs.Statements.{statement}
use Rattle.parts.specs.Tables.{rows}
use Rattle.parts.proofs.Records.{count_is}
use Rattle.run_ends.proofs.After.{after_one, after_stop, in_loop, loop_ends, after_loop, in_if_block, first_ends, in_else_block, second_ends, after_if}
use Rattle.run_ends.proofs.next_of.Goals.{In-For, In-If}
use Rattle.run_ends.proofs.next_of.Goals as goal

-- there are few records
few : (r : RecordTable) → length (rows r) ≤ 1024
few r = omega (arith, count_is r.file.now r.part, r.lies.few)

-- ---- a for

says_for : (c : In-For) → said (rows c.args.records) c.args.i ≡ for (loop c.in-For.field-0)
unfolding statement
says_for c = sym c.requires.0 ∙ ap statement c.in-For.is

pub overflow_add-i : goal.overflow_add-i
overflow_add-i c = omega (arith, few c.args.records)

pub end_of-requires : goal.end_of-requires
end_of-requires c = in_loop (rows c.args.records) c.args.i c.requires.2 c.requires.1 (says_for c)

pub overflow_add-result : goal.overflow_add-result
overflow_add-result c =
    let at = goal.at.overflow_add-result c in
    omega (arith, few c.args.records, loop_ends (rows c.args.records) c.args.i c.requires.2 c.requires.1 (says_for at.In-For) c.end_of.result c.end_of.ensures)

pub returns-in-For : goal.returns-in-For
returns-in-For c =
    let at = goal.at.returns-in-For c in
    after_loop (rows c.args.records) c.args.i c.requires.2 c.requires.1 (says_for at.In-For) c.end_of.result c.end_of.ensures

-- ---- an if

says_if : (c : In-If) → said (rows c.args.records) c.args.i ≡ if c.in-If.field-0
unfolding statement
says_if c = sym c.requires.0 ∙ ap statement c.in-If.is

pub overflow_add-i-in-If : goal.overflow_add-i-in-If
overflow_add-i-in-If c = omega (arith, few c.args.records)

pub end_of-other-requires : goal.end_of-other-requires
end_of-other-requires c = in_if_block (rows c.args.records) c.args.i c.requires.2 c.requires.1 (says_if c)

pub overflow_add-other : goal.overflow_add-other
overflow_add-other c =
    let at = goal.at.overflow_add-other c in
    omega (arith, few c.args.records, first_ends (rows c.args.records) c.args.i c.requires.2 c.requires.1 (says_if at.In-If) c.end_of-other.result c.end_of-other.ensures)

pub end_of-requires-in-If : goal.end_of-requires-in-If
end_of-requires-in-If c =
    let at = goal.at.end_of-requires-in-If c in
    in_else_block (rows c.args.records) c.args.i c.requires.2 c.requires.1 (says_if at.In-If) c.end_of-other.result c.end_of-other.ensures

pub overflow_add-result-in-If : goal.overflow_add-result-in-If
overflow_add-result-in-If c =
    let at = goal.at.overflow_add-result-in-If c in
    omega (arith, few c.args.records, second_ends (rows c.args.records) c.args.i c.requires.2 c.requires.1 (says_if at.In-If) c.end_of-other.result c.end_of-other.ensures c.end_of-in-If.result c.end_of-in-If.ensures)

pub returns-in-If : goal.returns-in-If
returns-in-If c =
    let at = goal.at.returns-in-If c in
    after_if (rows c.args.records) c.args.i c.requires.2 c.requires.1 (says_if at.In-If) c.end_of-other.result c.end_of-other.ensures c.end_of-in-If.result c.end_of-in-If.ensures

-- ---- any other

pub overflow_add-result-in_default : goal.overflow_add-result-in_default
overflow_add-result-in_default c = omega (arith, few c.args.records)

other : (rs : List Rec) (i : ℕ) (s : Statement) → Begins rs i → i < length rs → statement s ≡ said rs i → ((l : Loop) → s ≡ For l → ⊥) → ((p : ℕ) → s ≡ If p → ⊥)
    → i + 1 ≡ after_first (tree_at rs i)
unfolding statement
other rs i (Does o) b h e not_for not_if = after_one rs i b h (sym e)
other rs i (For l) b h e not_for not_if = absurd (not_for l refl)
other rs i (If p) b h e not_for not_if = absurd (not_if p refl)
other rs i Else b h e not_for not_if = after_stop rs i b h (at_an_else (sym e))
other rs i End b h e not_for not_if = after_stop rs i b h (at_an_end (sym e))

pub returns-in_default : goal.returns-in_default
returns-in_default c = other (rows c.args.records) c.args.i c.args.s.now c.requires.2 c.requires.1 c.requires.0 c.in_default.not-For c.in_default.not-If
