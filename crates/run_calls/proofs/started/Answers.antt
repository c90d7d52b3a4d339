-- `run_calls::started` meets its contract: the machine begins in the first state, and no stream gives or takes more items than it has.
use Prim.Native.Nat.{ℕ, ◌≤◌}
use mathlib.Core.Path.{◌≡◌, refl, sym, ap, subst, ◌∙◌}
use mathlib.Core.List.{[], ◌∷◌}
use native.Mathlib.Omega.{arith}
use lib.IntN.{ℤ, pos, nat_abs}
use lib.ListN.{get_or}
use Rattle.numbers.specs.Result.{ok}
use Rattle.numbers.specs.Words.{words, bytes}
use Rattle.numbers.proofs.Rows.{replicate_at}
use Rattle.kernel.specs.File.{Kernel, input, output}
use Rattle.kernel.specs.Named.{side}
use Rattle.kernel.specs.Reading.{open_loops}
use Rattle.kernel.specs.Trees.{tree}
use Rattle.kernel.specs.Machine.{State, run}
use Rattle.kernel.specs.Memory as Memory
use Rattle.kernel.specs.Memory.{moved}
use Rattle.parts.specs.Arrays.{measure}
use Rattle.parts.proofs.Parts.{reads}
use Rattle.memory.specs.Sizes.{declared, total, size, base}
use Rattle.run_loops.specs.declared.Counters.{Counters}
use Rattle.run_ops.specs.States.{state}
use Rattle.run_blocks.specs.View.{Stands, ran}
use Rattle.run_calls.specs.View.{kernel_of, answer_of, program, program_ran}
use Rattle.run_calls.proofs.Calls.{declared_is}
use Rattle.run_calls.proofs.Ready.{ready, inputs_few, outputs_few, cleared_words, cleared_whole, layout_is, start_is, tree_is}
use Rattle.run_calls.proofs.Outcome.{items_few, answered, memory_is}
use Rattle.run_calls.proofs.started.Goals.{After-run_block-ending}
use Rattle.run_calls.proofs.started.Goals as goal

abbrev outside : Counters
outside = record { left = 8; level = 0; values = pos 0 ∷ pos 0 ∷ pos 0 ∷ pos 0 ∷ [] }

pub run_block-ending-requires : goal.run_block-ending-requires
unfolding open_loops
run_block-ending-requires c =
    let K = kernel_of c.args.k in
    let p = ready K (reads c.args.k.file.now c.args.k.counts c.args.k.reads) c.args.m in (
      subst (λ rs. Stands rs 0 outside) (sym c.program.ensures) (record {
        begins = record { scope = p.scope; opens = []; reads = p.nested };
        few_registers = p.few_registers;
        few_arrays = p.few_arrays;
        left_is = refl;
        level_is = refl;
      }),
      record { each = λ level. record { abs = omega (arith, ap nat_abs (replicate_at {A = ℤ} 4 level (pos 0))) } },
      cleared_whole c.args.output.now (total output c.args.m K.arrays) c.requires c.clear.new.area c.clear.ensures,
    )

-- where the program has run
module _ (c : After-run_block-ending) where
  abbrev K : Kernel
  K = kernel_of c.args.k

  abbrev after : State
  after = state c.run_block-ending.new.machine (words c.run_block-ending.new.output)

  sizes_are : (q : ℕ) → get_or c.sizes.result q 0 ≡ size c.args.m K.arrays q
  sizes_are q = c.sizes.ensures q ∙ ap (λ rs. size c.args.m rs q) (declared_is c.arrays-arrays.result c.args.k c.arrays-arrays.ensures)

  bases_are : (q : ℕ) → get_or c.bases.result q 0 ≡ base c.args.m K.arrays q
  bases_are q = c.bases.ensures q ∙ ap (λ rs. base c.args.m rs q) (declared_is c.arrays-arrays.result c.args.k c.arrays-arrays.ensures)

  -- no more items than there are
  few : (side : ℕ) → moved side 0 K.arrays after ≤ total side c.args.m K.arrays
  few = items_few _ K.arrays c.args.m c.run_block-ending.result _ after _ _ refl sizes_are c.run_block-ending.ensures.0

  runs : ran c.run_block-ending.result after ≡ run (Memory.layout (measure c.args.m) K (words c.args.input.now)) (tree (program c.args.m K)) Memory.outside (Memory.start (measure c.args.m) K)
  runs =
      let zeros = cleared_words c.args.output.now (total output c.args.m K.arrays) c.requires c.clear.new.area c.clear.ensures in
      c.run_block-ending.ensures.0
      ∙ (λ i. run (layout_is K c.args.m (record { sizes = c.sizes.result; bases = c.bases.result; input = c.args.input }) sizes_are bases_are i) (tree_is (c.program.ensures i) i) Memory.outside (start_is K c.args.m (words c.clear.new.area) zeros i))

  memory_after : c.run_block-ending.new.output ≡ bytes (program_ran c.args.m (program c.args.m K) K (words c.args.input.now)).memory
  unfolding program_ran
  memory_after = sym c.run_block-ending.ensures.1 ∙ ap bytes (memory_is K after c.run_block-ending.result ∙ ap (λ r. (Memory.ran K r).memory) runs)

  moved_is : (side : ℕ) → moved side 0 (declared c.arrays-arrays.result) after ≡ moved side 0 K.arrays after
  moved_is side = ap (λ rs. moved side 0 rs after) (declared_is c.arrays-arrays.result c.args.k c.arrays-arrays.ensures)

pub overflow_cast-read : goal.overflow_cast-read
unfolding side
overflow_cast-read c =
    let b = (goal.at.overflow_cast-read c).After-run_block-ending in
    record { fits = omega (arith, c.moved-read.ensures (after b) refl ∙ moved_is b input, few b input, inputs_few (K b) (reads c.args.k.file.now c.args.k.counts c.args.k.reads) c.args.m) }

pub overflow_cast-written : goal.overflow_cast-written
unfolding side
overflow_cast-written c =
    let b = (goal.at.overflow_cast-written c).After-run_block-ending in
    record { fits = omega (arith, c.moved-written.ensures (after b) refl ∙ moved_is b output, few b output, outputs_few (K b) (reads c.args.k.file.now c.args.k.counts c.args.k.reads) c.args.m) }

pub returns : goal.returns
unfolding program_ran side
returns c =
    let b = (goal.at.returns c).After-run_block-ending in (
      answered (K b) (after b) c.run_block-ending.result _ _ (c.moved-read.ensures (after b) refl ∙ moved_is b input) (c.moved-written.ensures (after b) refl ∙ moved_is b output)
          ∙ ap (λ r. answer_of (ok (Memory.ran (K b) r))) (runs b),
      memory_after b,
    )
