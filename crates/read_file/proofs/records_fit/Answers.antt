-- `read_file::records_fit` meets its contract: each section's test in its turn, of the kernel's own section.
use mathlib.Core.Path.{◌≡◌, refl, sym}
use mathlib.Core.List.{[]}
use native.Mathlib.Omega.{arith}
use Rattle.std.proofs.lemmas.Result.{err_from_is_err_and}
use Rattle.kernel.specs.File.{Kernel}
use Rattle.kernel.specs.Named as Named
use Rattle.kernel.specs.Reading.{array_scope, stream_scope, arrays_fit, statements_fit, rules_fit, read_file}
use Rattle.parts.specs.declared.Sections.{Sections}
use Rattle.parts.specs.Parts.{kernel}
use Rattle.parts.proofs.Parts.{arrays_count, buffers_are}
use Rattle.read_file.specs.View.{checked, answer}
use Rattle.read_file.proofs.Parts.{from_arrays, read_sections, go_arrays, stop_arrays, go_array_program, stop_array_program, go_stream_program, stop_stream_program, go_rules, stop_rules}
use Rattle.read_file.proofs.records_fit.Goals.{Start, After-arrays_fit, After-statements_fit, After-statements_fit-2, After-rules_fit}
use Rattle.read_file.proofs.records_fit.Goals as goal

abbrev K : Sections → Kernel
K s = kernel s.file.now s.counts

-- ---- what each section's test came to

read_from : (c : Start) → read_file c.args.s.file.now ≡ from_arrays (K c.args.s)
read_from c = read_sections c.args.s.file.now (K c.args.s) c.requires.0 c.requires.1

arrays_tested : (c : After-arrays_fit) → checked c.arrays_fit.result ≡ arrays_fit 0 0 0 (K c.args.s).arrays
unfolding kernel
arrays_tested c = rw (c.arrays.ensures.0, c.arrays.ensures.1) at c.arrays_fit.ensures

array_tested : (c : After-statements_fit) → checked c.statements_fit.result ≡ statements_fit (array_scope (K c.args.s)) 4 0 [] (K c.args.s).array_program
unfolding kernel Named.section
array_tested c = rw (c.array_program.ensures.0, c.array_program.ensures.1) at c.statements_fit.ensures

stream_tested : (c : After-statements_fit-2) → checked c.statements_fit-2.result ≡ statements_fit (stream_scope (K c.args.s)) 5 0 [] (K c.args.s).stream_program
unfolding kernel Named.section
stream_tested c = rw (c.stream_program.ensures.0, c.stream_program.ensures.1) at c.statements_fit-2.ensures

-- a derivation's test is of every kernel of so many arrays and buffers
rules_tested : (c : After-rules_fit) → checked c.rules_fit.result ≡ rules_fit (K c.args.s) 0 (K c.args.s).derivation
unfolding kernel
rules_tested c =
    let s = c.args.s in
    rw (c.derivation.ensures.0, c.derivation.ensures.1) at c.rules_fit.ensures (K s) (arrays_count s.file.now s.counts) (buffers_are s.file.now s.counts)

-- ---- arrays

pub returns-in_err-arrays_fit : goal.returns-in_err-arrays_fit
unfolding answer
returns-in_err-arrays_fit c =
    let g = goal.at.returns-in_err-arrays_fit c in
    let p = err_from_is_err_and c.from_residual.result c.from_residual.ensures.1 in
    rw (p.1, p.2) (sym (stop_arrays (K c.args.s) (read_from g.Start) (arrays_tested g.After-arrays_fit) c.in_err-arrays_fit.was), tt)

pub invariant_of-arrays : goal.invariant_of-arrays
unfolding checked
invariant_of-arrays c =
    let f = c.args.s.fills in record {
      few = f.few.arrays;
      there = omega (arith, f.whole);
      fit = sym (rw (c.arrays.ensures.0, c.arrays.ensures.1) at c.in_ok-arrays_fit.ensures);
    }

-- ---- the two programs

pub returns-in_err-statements_fit : goal.returns-in_err-statements_fit
unfolding answer
returns-in_err-statements_fit c =
    let g = goal.at.returns-in_err-statements_fit c in
    let p = err_from_is_err_and c.from_residual-in_err-statements_fit.result c.from_residual-in_err-statements_fit.ensures.1 in
    let from_program = go_arrays (K c.args.s) (read_from g.Start) (arrays_tested g.After-arrays_fit) c.in_ok-arrays_fit.was in
    rw (p.1, p.2) (sym (stop_array_program (K c.args.s) from_program (array_tested g.After-statements_fit) c.in_err-statements_fit.was), tt)

pub returns-in_err-statements_fit-2 : goal.returns-in_err-statements_fit-2
unfolding answer
returns-in_err-statements_fit-2 c =
    let g = goal.at.returns-in_err-statements_fit-2 c in
    let p = err_from_is_err_and c.from_residual-in_err-statements_fit-2.result c.from_residual-in_err-statements_fit-2.ensures.1 in
    let from_program = go_arrays (K c.args.s) (read_from g.Start) (arrays_tested g.After-arrays_fit) c.in_ok-arrays_fit.was in
    let from_stream = go_array_program (K c.args.s) from_program (array_tested g.After-statements_fit) c.in_ok-statements_fit.was in
    rw (p.1, p.2) (sym (stop_stream_program (K c.args.s) from_stream (stream_tested g.After-statements_fit-2) c.in_err-statements_fit-2.was), tt)

-- ---- the derivation

pub returns-in_err-rules_fit : goal.returns-in_err-rules_fit
unfolding answer
returns-in_err-rules_fit c =
    let g = goal.at.returns-in_err-rules_fit c in
    let p = err_from_is_err_and c.from_residual-in_err-rules_fit.result c.from_residual-in_err-rules_fit.ensures.1 in
    let from_program = go_arrays (K c.args.s) (read_from g.Start) (arrays_tested g.After-arrays_fit) c.in_ok-arrays_fit.was in
    let from_stream = go_array_program (K c.args.s) from_program (array_tested g.After-statements_fit) c.in_ok-statements_fit.was in
    let from_derivation = go_stream_program (K c.args.s) from_stream (stream_tested g.After-statements_fit-2) c.in_ok-statements_fit-2.was in
    rw (p.1, p.2) (sym (stop_rules (K c.args.s) from_derivation (rules_tested g.After-rules_fit) c.in_err-rules_fit.was), tt)

pub invariant_of-result : goal.invariant_of-result
invariant_of-result c =
    let g = goal.at.invariant_of-result c in
    let from_program = go_arrays (K c.args.s) (read_from g.Start) (arrays_tested g.After-arrays_fit) c.in_ok-arrays_fit.was in
    let from_stream = go_array_program (K c.args.s) from_program (array_tested g.After-statements_fit) c.in_ok-statements_fit.was in
    let from_derivation = go_stream_program (K c.args.s) from_stream (stream_tested g.After-statements_fit-2) c.in_ok-statements_fit-2.was in
    record { reads = go_rules (K c.args.s) from_derivation (rules_tested g.After-rules_fit) c.in_ok-rules_fit.was }

pub returns : goal.returns
unfolding answer
returns c =
    let g = goal.at.returns c in
    let from_program = go_arrays (K c.args.s) (read_from g.Start) (arrays_tested g.After-arrays_fit) c.in_ok-arrays_fit.was in
    let from_stream = go_array_program (K c.args.s) from_program (array_tested g.After-statements_fit) c.in_ok-statements_fit.was in
    let from_derivation = go_stream_program (K c.args.s) from_stream (stream_tested g.After-statements_fit-2) c.in_ok-statements_fit-2.was in
    (sym (go_rules (K c.args.s) from_derivation (rules_tested g.After-rules_fit) c.in_ok-rules_fit.was), refl)
