-- `check_take::enter_for` meets its contract: the statements and the rows fit, the rows are true at first, and they are the ledger inside.
use Prim.Native.Nat.{ℕ, ◌+◌, ◌^◌, ◌≤◌}
use mathlib.Core.Path.{◌≡◌, refl, sym, ap, subst, ◌∙◌}
use mathlib.Core.Bool.{Bool, true}
use mathlib.Core.List.{List}
use native.Mathlib.Omega.{arith}
use borrow.Author.Rules.{rules}
use lib.IntN.{ℤ}
use lib.ListN.{length}
use Rattle.numbers.specs.Bounds.{Small}
use Rattle.numbers.proofs.Signs.{back, as_returned}
use Rattle.forms.specs.Form as F
use Rattle.forms.specs.Code.{loops}
use Rattle.kernel.specs.File.{loop_of}
use Rattle.kernel.specs.Reading.{Open}
use Rattle.kernel.specs.Ledger as L
use Rattle.kernel.specs.Derivation as Derivation
use Rattle.kernel.specs.Derivation.{Opened}
use Rattle.kernel.specs.Named.{misfit}
use Rattle.kernel.specs.declared.codes.Rule.TheVariants.{For}
use Rattle.parts.specs.declared.Part.{Part}
use Rattle.parts.specs.Records.{rec}
use Rattle.parts.specs.Parts.{records_in, derivation_part}
use Rattle.parts.specs.Tables.{rows}
use Rattle.parts.proofs.Parts.{few, derivation_is, arrays_count, buffers_are}
use Rattle.check_ledger.specs.View.{ledger}
use Rattle.check_rows.specs.View.{SmallForms}
use Rattle.check_rows.specs.Changes.{Stated, counted}
use Rattle.check_rows.proofs.Stating.{zeros_stated}
use Rattle.check_rules.proofs.Needs.{need_fails, need_holds}
use Rattle.check_take.specs.View.{held_by, place, loop_there, Onward, ReadsOn, Enters}
use Rattle.check_take.proofs.Came.{refuses, need_stops, need_goes, refused_so, same_place}
use Rattle.check_take.proofs.Comes.{Fitting, unfit, fit}
use Rattle.check_take.proofs.Taking.{stopped}
use Rattle.check_take.proofs.Entering.{loops_count, deep, deep_loops, small_forms, tests, for_enters, went_in, rows_there, loop_fits, for_onward, enters}
use Rattle.check_take.proofs.enter_for.Goals.{After-are_true, After-derivation-records, After-for_fits, After-for_loop-first, In_ok-need, Start}
use Rattle.check_take.proofs.enter_for.Goals as goal

-- ---- what the tests say

module _ (s : Start) where
  level_of : (os : List Opened) → Derivation.loops os ≡ loops s.args.around → length (Derivation.loops os) ≡ s.args.around.count
  level_of os l =
      let long : length s.args.around.levels ≡ 4 = search rules in
      ap length l ∙ loops_count s.args.around long s.requires.1

-- the first test is whether the rule fits, with any blocks of as many loops open
module _ (c : After-for_fits) where
  tested : (os : List Opened) → length (Derivation.loops os) ≡ c.args.around.count → c.for_fits.result ≡ Fitting c.args.kernel os c.args.at c.args.l.now For
  tested os e =
      let k = c.args.kernel in
      let at = c.args.at in
      let l = c.args.l.now in
      let p = c.pair_next-pair in
      tests k at l os (rec p.result.array) (rec p.result.stream) c.for_fits.result p.ensures.array_is p.ensures.stream_is (c.for_fits.ensures (place k.counts.a k.counts.b os at l) refl e)

module _ (c : In_ok-need) where
  goes : (os : List Opened) → length (Derivation.loops os) ≡ c.args.around.count → Fitting c.args.kernel os c.args.at c.args.l.now For ≡ true
  goes os e =
      let k = c.args.kernel in
      let at = c.args.at in
      let l = c.args.l.now in
      let p = c.pair_next-pair in
      sym (tests k at l os (rec p.result.array) (rec p.result.stream) c.for_fits.result p.ensures.array_is p.ensures.stream_is (c.for_fits.ensures (place k.counts.a k.counts.b os at l) refl e))
      ∙ need_goes _ _ c.for_fits.result c.need.ensures c.in_ok-need.was

  -- with some blocks of as many loops
  abbrev blocks : List Opened
  blocks = deep c.args.around.count

  some : Fitting c.args.kernel blocks c.args.at c.args.l.now For ≡ true
  some = goes blocks (deep_loops c.args.around.count)

-- the records are those of the derivation
module _ (c : After-derivation-records) where
  records_are : records_in c.args.kernel.file.now (derivation_part c.args.kernel.counts) ≡ rows c.derivation-records.result
  records_are =
      let s = c.sections.ensures in
      let t = c.derivation-records.ensures in
      λ i. records_in (sym (t.0 ∙ s.0) i).now (sym (t.1 ∙ ap derivation_part s.1) i)

module _ (c : After-for_loop-first) where
  -- the rows' ledger is the one that the definition states
  stated_there : records_in c.args.kernel.file.now (derivation_part c.args.kernel.counts) ≡ rows c.derivation-records.result → (os : List Opened)
      → ledger c.args.kernel.counts.a c.args.kernel.counts.b c.state.new.l
      ≡ Derivation.stated (held_by c.args.kernel) (Derivation.hold_rows (held_by c.args.kernel) (place c.args.kernel.counts.a c.args.kernel.counts.b os c.args.at c.args.l.now))
  stated_there are os =
      let k = c.args.kernel in
      let file = k.file.now in
      c.state.ensures.0 (held_by k) (place k.counts.a k.counts.b os c.args.at c.args.l.now) (derivation_is file k.counts ∙ are) (arrays_count file k.counts) (buffers_are file k.counts) refl

  first_is : back c.for_loop-first.result.first ≡ (loop_there c.args.kernel c.args.at).first
  first_is =
      as_returned {z = c.for_loop-first.result.first} (search rules) ∙ ap (λ (l : F.Loop). l.first) (c.for_loop-first.ensures ∙ ap loop_of c.pair_next-pair.ensures.array_is)

-- the second is whether the rows are true at first
module _ (c : After-are_true) where
  abbrev at_first : ℤ → Bool
  at_first z =
      let k = c.args.kernel.counts in
      L.rows_true (loops c.args.around) (L.each (F.put_at c.args.around.count z) (ledger k.a k.b c.state.new.l)) (ledger k.a k.b c.args.l.now)

  held : {first : ℤ} → back c.for_loop-first.result.first ≡ first → c.are_true.result ≡ at_first first
  unfolding counted
  held e = c.are_true.ensures ∙ ap at_first e

-- ---- the needs

pub for_fits-requires : goal.for_fits-requires
for_fits-requires c =
    let k = c.args.kernel in
    (omega (arith, (few k.file.now k.counts k.reads).rules, c.requires.0.there), c.requires.1)

pub returns-in_err-need : goal.returns-in_err-need
unfolding misfit
returns-in_err-need c =
    let k = c.args.kernel in
    let at = c.args.at in
    let l = c.args.l.now in
    let g = goal.at.returns-in_err-need c in
    let is = refused_so _ _ c.for_fits.result c.from_residual.result c.need.ensures c.in_err-need.was c.from_residual.ensures.1 in
    let unfits = need_stops _ _ c.for_fits.result c.need.ensures c.in_err-need.was in
    record {
      as_defined = λ os o. stopped k os at l _ l is (unfit k os at l For c.requires.2 (sym (tested g.After-for_fits os (level_of g.Start os o)) ∙ unfits));
      onward = λ to. refuses is;
      stated = λ to. refuses is;
      enters = λ to. refuses is;
    }

pub state-requires : goal.state-requires
state-requires c =
    let k = c.args.kernel in
    let g = goal.at.state-requires c in
    let f = few k.file.now k.counts k.reads in
    let count = ap (λ (p : Part). p.count) (c.derivation-records.ensures.1 ∙ ap derivation_part c.sections.ensures.1) in (
      subst (λ n. c.args.at.rule + 1 + k.counts.a + k.counts.b ≤ n) (sym count) (rows_there k c.args.at c.args.l.now (blocks g.In_ok-need) (some g.In_ok-need) c.requires.0.there),
      f.arrays,
      f.buffers,
      subst SmallForms (records_are g.After-derivation-records) (small_forms k.file.now k.counts k.reads),
      subst Stated (sym c.fresh-stated.ensures) zeros_stated,
    )

pub invariant_of-rows : goal.invariant_of-rows
invariant_of-rows c =
    let f = few c.args.kernel.file.now c.args.kernel.counts c.args.kernel.reads in
    record { stated = c.state.ensures.1; few_arrays = f.arrays; few_buffers = f.buffers }

pub invariant_of-change : goal.invariant_of-change
invariant_of-change c =
    let k = c.args.kernel in
    let g = goal.at.invariant_of-change c in
    record { small = subst (Small (2 ^ 16)) (sym (first_is g.After-for_loop-first)) (record { abs = (loop_fits k c.args.at c.args.l.now (blocks g.In_ok-need) (some g.In_ok-need)).first_small }) }

pub returns-in_err-need-2 : goal.returns-in_err-need-2
unfolding misfit
returns-in_err-need-2 c =
    let k = c.args.kernel in
    let at = c.args.at in
    let l = c.args.l.now in
    let g = goal.at.returns-in_err-need-2 c in
    let first = g.After-for_loop-first in
    let is = refused_so _ _ c.are_true.result c.from_residual-in_err-need-2.result c.need-2.ensures c.in_err-need-2.was c.from_residual-in_err-need-2.ensures.1 in
    let untrue = sym (held g.After-are_true (first_is first)) ∙ need_stops _ _ c.are_true.result c.need-2.ensures c.in_err-need-2.was in
    record {
      as_defined = λ os o.
          let level = level_of g.Start os o in
          stopped k os at l _ l is (fit k os at l For c.requires.2 (goes g.In_ok-need os level) (for_enters k at l os c.args.around.count (loops c.args.around) _ level o (stated_there first (records_are g.After-derivation-records) os) ∙ need_fails 14 _ _ untrue));
      onward = λ to. refuses is;
      stated = λ to. refuses is;
      enters = λ to. refuses is;
    }

pub returns : goal.returns
returns c =
    let k = c.args.kernel in
    let at = c.args.at in
    let l = c.args.l.now in
    let m = c.state.new.l in
    let g = goal.at.returns c in
    let first = g.After-for_loop-first in
    let so = sym (held g.After-are_true (first_is first)) ∙ need_goes _ _ c.are_true.result c.need-2.ensures c.in_ok-need-2.was in
    let whole : length m.positions ≡ 8 = search rules in
    record {
      as_defined = λ os o.
          let level = level_of g.Start os o in
          went_in k at l os _ m (fit k os at l For c.requires.2 (goes g.In_ok-need os level) (for_enters k at l os c.args.around.count (loops c.args.around) _ level o (stated_there first (records_are g.After-derivation-records) os) ∙ need_holds 14 _ _ so));
      onward = λ to e. subst (λ to. Onward k.counts at to m) (same_place e) (for_onward k at l (blocks g.In_ok-need) (some g.In_ok-need) m c.requires.0.stood c.requires.0.there whole c.state.ensures.1.at_position);
      stated = λ to e. c.state.ensures.1;
      enters = λ to e. subst (λ to. (opens : List Open) → ReadsOn k opens at → Enters k opens at to) (same_place e) (enters k at l (blocks g.In_ok-need) (some g.In_ok-need));
    }
