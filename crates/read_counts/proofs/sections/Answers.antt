-- `read_counts::sections` meets its contract: each step goes on from the place that the last one came to.
use Prim.Native.Nat.{◌+◌, ◌-◌, ◌*◌}
use mathlib.Core.Path.{◌≡◌, refl, sym, ◌∙◌}
use native.Mathlib.Omega.{arith}
use lib.ListN.{drop}
use Rattle.std.proofs.lemmas.Result.{err_from_is_err_and}
use Rattle.numbers.specs.Result.{ok}
use Rattle.numbers.specs.Words.{words}
use Rattle.numbers.proofs.Areas.{words_length}
use Rattle.kernel.specs.Named as Named
use Rattle.kernel.specs.Named.{section_of, misread, unread}
use Rattle.kernel.specs.Reading.{records, count, section}
use Rattle.parts.specs.Parts.{kernel}
use Rattle.read_counts.specs.View.{counted, listed, answer}
use Rattle.read_counts.proofs.AsMet.{stop_r, stop_b, stop_a, stop_s, stop_t, stop_d, stop_end, go_r, go_b, go_a, go_s, go_t, go_d, go_end}
use Rattle.read_counts.proofs.sections.Goals.{After-count, After-count-2, After-section, After-section-2, After-section-3, After-section-4}
use Rattle.read_counts.proofs.sections.Goals as goal

-- what each step came to, from the place where its reader was lent
met_r : (c : After-count) → counted (words c.args.file.now) c.count.result ≡ count 1 1 32 (words c.args.file.now)
unfolding Named.section
met_r c = rw (c.lent.ensures.0, c.lent.ensures.1) at c.count.ensures.0

met_b : (c : After-count-2) → counted (words c.args.file.now) c.count-2.result ≡ count 2 0 16 (drop c.in_ok-r.r.next (words c.args.file.now))
unfolding Named.section
met_b c = rw (c.lent-2.ensures.0, c.lent-2.ensures.1) at c.count-2.ensures.0

met_a : (c : After-section) → listed (words c.args.file.now) c.section.result ≡ section 3 1 8 (drop c.in_ok-b.b.next (words c.args.file.now))
unfolding Named.section
met_a c = rw (c.lent-3.ensures.0, c.lent-3.ensures.1) at c.section.ensures.0

met_s : (c : After-section-2) → listed (words c.args.file.now) c.section-2.result ≡ section 4 0 256 (drop c.in_ok-a.a.next (words c.args.file.now))
unfolding Named.section
met_s c = rw (c.lent-4.ensures.0, c.lent-4.ensures.1) at c.section-2.ensures.0

met_t : (c : After-section-3) → listed (words c.args.file.now) c.section-3.result ≡ section 5 0 256 (drop c.in_ok-s.s.next (words c.args.file.now))
unfolding Named.section
met_t c = rw (c.lent-5.ensures.0, c.lent-5.ensures.1) at c.section-3.ensures.0

met_d : (c : After-section-4) → listed (words c.args.file.now) c.section-4.result ≡ section 6 0 1024 (drop c.in_ok-t.t.next (words c.args.file.now))
unfolding Named.section
met_d c = rw (c.lent-6.ensures.0, c.lent-6.ensures.1) at c.section-4.ensures.0

pub returns-in_err-r : goal.returns-in_err-r
unfolding answer
returns-in_err-r c =
    let ws = words c.args.file.now in
    let g = goal.at.returns-in_err-r c in
    let p = err_from_is_err_and c.from_residual.result c.from_residual.ensures.1 in
    rw (p.1, p.2) (sym (stop_r ws (met_r g.After-count) c.in_err-r.was), tt)

pub returns-in_err-b : goal.returns-in_err-b
unfolding answer
returns-in_err-b c =
    let ws = words c.args.file.now in
    let g = goal.at.returns-in_err-b c in
    let p = err_from_is_err_and c.from_residual-in_err-b.result c.from_residual-in_err-b.ensures.1 in
    rw (p.1, p.2) (sym (stop_b ws _ _ (go_r ws (met_r g.After-count) c.in_ok-r.was) (met_b g.After-count-2) c.in_err-b.was), tt)

pub returns-in_err-a : goal.returns-in_err-a
unfolding answer
returns-in_err-a c =
    let ws = words c.args.file.now in
    let g = goal.at.returns-in_err-a c in
    let p = err_from_is_err_and c.from_residual-in_err-a.result c.from_residual-in_err-a.ensures.1 in
    rw (p.1, p.2) (sym (stop_a ws _ _ _ (go_b ws _ _ (go_r ws (met_r g.After-count) c.in_ok-r.was) (met_b g.After-count-2) c.in_ok-b.was) (met_a g.After-section) c.in_err-a.was), tt)

pub returns-in_err-s : goal.returns-in_err-s
unfolding answer
returns-in_err-s c =
    let ws = words c.args.file.now in
    let g = goal.at.returns-in_err-s c in
    let p = err_from_is_err_and c.from_residual-in_err-s.result c.from_residual-in_err-s.ensures.1 in
    rw (p.1, p.2) (sym (stop_s ws _ _ _ _ (go_a ws _ _ _ (go_b ws _ _ (go_r ws (met_r g.After-count) c.in_ok-r.was) (met_b g.After-count-2) c.in_ok-b.was) (met_a g.After-section) c.in_ok-a.was) (met_s g.After-section-2) c.in_err-s.was), tt)

pub returns-in_err-t : goal.returns-in_err-t
unfolding answer
returns-in_err-t c =
    let ws = words c.args.file.now in
    let g = goal.at.returns-in_err-t c in
    let p = err_from_is_err_and c.from_residual-in_err-t.result c.from_residual-in_err-t.ensures.1 in
    rw (p.1, p.2) (sym (stop_t ws _ _ _ _ _ (go_s ws _ _ _ _ (go_a ws _ _ _ (go_b ws _ _ (go_r ws (met_r g.After-count) c.in_ok-r.was) (met_b g.After-count-2) c.in_ok-b.was) (met_a g.After-section) c.in_ok-a.was) (met_s g.After-section-2) c.in_ok-s.was) (met_t g.After-section-3) c.in_err-t.was), tt)

pub returns-in_err-d : goal.returns-in_err-d
unfolding answer
returns-in_err-d c =
    let ws = words c.args.file.now in
    let g = goal.at.returns-in_err-d c in
    let p = err_from_is_err_and c.from_residual-in_err-d.result c.from_residual-in_err-d.ensures.1 in
    rw (p.1, p.2) (sym (stop_d ws _ _ _ _ _ _ (go_t ws _ _ _ _ _ (go_s ws _ _ _ _ (go_a ws _ _ _ (go_b ws _ _ (go_r ws (met_r g.After-count) c.in_ok-r.was) (met_b g.After-count-2) c.in_ok-b.was) (met_a g.After-section) c.in_ok-a.was) (met_s g.After-section-2) c.in_ok-s.was) (met_t g.After-section-3) c.in_ok-t.was) (met_d g.After-section-4) c.in_err-d.was), tt)

pub returns-then-d-file : goal.returns-then-d-file
unfolding answer unread misread section_of
returns-then-d-file c =
    let ws = words c.args.file.now in
    let g = goal.at.returns-then-d-file c in
    let so = go_d ws _ _ _ _ _ _ (go_t ws _ _ _ _ _ (go_s ws _ _ _ _ (go_a ws _ _ _ (go_b ws _ _ (go_r ws (met_r g.After-count) c.in_ok-r.was) (met_b g.After-count-2) c.in_ok-b.was) (met_a g.After-section) c.in_ok-a.was) (met_s g.After-section-2) c.in_ok-s.was) (met_t g.After-section-3) c.in_ok-t.was) (met_d g.After-section-4) c.in_ok-d.was in
    (sym (stop_end ws _ _ _ _ _ _ _ so (omega (arith, words_length c.args.file.now, c.if-d-file.true))), tt)

-- the sections before the last are short
pub section-requires-4 : goal.section-requires-4
section-requires-4 c = (omega (arith, c.lent.ensures.1, c.in_ok-r.ensures.1.1, c.lent-2.ensures.1, c.in_ok-b.ensures.1.1, c.lent-3.ensures.1, c.in_ok-a.ensures.1.1, c.lent-4.ensures.1, c.in_ok-s.ensures.1.1, c.lent-5.ensures.1, c.in_ok-t.ensures.1.1, c.lent-6.ensures.1, c.in_ok-r.ensures.1.0, c.in_ok-b.ensures.1.0, c.in_ok-a.ensures.1.0, c.in_ok-s.ensures.1.0, c.in_ok-t.ensures.1.0), omega arith)

pub invariant_of-result : goal.invariant_of-result
invariant_of-result c =
    let inside = rw c.lent-6.ensures.0 at c.in_ok-d.ensures.1.2 in record {
      fills = record {
        few = record {
          registers = c.in_ok-r.ensures.1.0;
          buffers = c.in_ok-b.ensures.1.0;
          arrays = c.in_ok-a.ensures.1.0;
          array_statements = c.in_ok-s.ensures.1.0;
          stream_statements = c.in_ok-t.ensures.1.0;
          rules = c.in_ok-d.ensures.1.0;
        };
        whole = omega (arith, c.lent.ensures.1, c.in_ok-r.ensures.1.1, c.lent-2.ensures.1, c.in_ok-b.ensures.1.1, c.lent-3.ensures.1, c.in_ok-a.ensures.1.1, c.lent-4.ensures.1, c.in_ok-s.ensures.1.1, c.lent-5.ensures.1, c.in_ok-t.ensures.1.1, c.lent-6.ensures.1, c.in_ok-d.ensures.1.1, inside, c.if-d-file.false);
      };
    }

pub returns : goal.returns
unfolding answer kernel
returns c =
    let ws = words c.args.file.now in
    let g = goal.at.returns c in
    let so = go_d ws _ _ _ _ _ _ (go_t ws _ _ _ _ _ (go_s ws _ _ _ _ (go_a ws _ _ _ (go_b ws _ _ (go_r ws (met_r g.After-count) c.in_ok-r.was) (met_b g.After-count-2) c.in_ok-b.was) (met_a g.After-section) c.in_ok-a.was) (met_s g.After-section-2) c.in_ok-s.was) (met_t g.After-section-3) c.in_ok-t.was) (met_d g.After-section-4) c.in_ok-d.was in
    let ea : 3 ≡ c.in_ok-a.a.next - 8 * c.in_ok-a.a.count = omega (arith, c.lent.ensures.1, c.in_ok-r.ensures.1.1, c.lent-2.ensures.1, c.in_ok-b.ensures.1.1, c.lent-3.ensures.1, c.in_ok-a.ensures.1.1) in
    let es : 4 + 8 * c.in_ok-a.a.count ≡ c.in_ok-s.s.next - 8 * c.in_ok-s.s.count = omega (arith, c.lent.ensures.1, c.in_ok-r.ensures.1.1, c.lent-2.ensures.1, c.in_ok-b.ensures.1.1, c.lent-3.ensures.1, c.in_ok-a.ensures.1.1, c.lent-4.ensures.1, c.in_ok-s.ensures.1.1) in
    let et : 5 + 8 * (c.in_ok-a.a.count + c.in_ok-s.s.count) ≡ c.in_ok-t.t.next - 8 * c.in_ok-t.t.count = omega (arith, c.lent.ensures.1, c.in_ok-r.ensures.1.1, c.lent-2.ensures.1, c.in_ok-b.ensures.1.1, c.lent-3.ensures.1, c.in_ok-a.ensures.1.1, c.lent-4.ensures.1, c.in_ok-s.ensures.1.1, c.lent-5.ensures.1, c.in_ok-t.ensures.1.1) in
    let ed : 6 + 8 * (c.in_ok-a.a.count + c.in_ok-s.s.count + c.in_ok-t.t.count) ≡ c.in_ok-d.d.next - 8 * c.in_ok-d.d.count = omega (arith, c.lent.ensures.1, c.in_ok-r.ensures.1.1, c.lent-2.ensures.1, c.in_ok-b.ensures.1.1, c.lent-3.ensures.1, c.in_ok-a.ensures.1.1, c.lent-4.ensures.1, c.in_ok-s.ensures.1.1, c.lent-5.ensures.1, c.in_ok-t.ensures.1.1, c.lent-6.ensures.1, c.in_ok-d.ensures.1.1) in (
      (λ i. ok (record {
        registers = c.in_ok-r.r.count;
        buffers = c.in_ok-b.b.count;
        arrays = records c.in_ok-a.a.count (drop (ea i) ws);
        array_program = records c.in_ok-s.s.count (drop (es i) ws);
        stream_program = records c.in_ok-t.t.count (drop (et i) ws);
        derivation = records c.in_ok-d.d.count (drop (ed i) ws);
      }))
          ∙ sym (go_end ws _ _ _ _ _ _ _ so (omega (arith, words_length c.args.file.now, c.if-d-file.false))),
      refl,
    )
