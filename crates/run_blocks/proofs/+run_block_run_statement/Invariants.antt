-- Nesting left falls: three times of it for a for and an if, one more for a statement, and two for a block.
use Prim.Native.Nat.{◌+◌, ◌-◌, ◌*◌}
use mathlib.Core.Path.{◌≡◌}
use Rattle.numbers.specs.Words.{words}
use Rattle.forms.specs.Code.{loop}
use Rattle.kernel.specs.Machine.{in_pass, run}
use Rattle.kernel.specs.Trees.{tree_at}
use Rattle.parts.specs.Tables.{rows}
use Rattle.run_loops.specs.View.{counters}
use Rattle.run_ops.specs.States.{state}
use Rattle.run_ops.specs.Layout.{layout, Whole}
use Rattle.run_blocks.specs.View.{Stands}
use Rattle.run_blocks.proofs.Runs.{Passed}
use Rattle.run_blocks.proofs.+run_block_run_statement.Given as goal

abbrev pub decreases-run_block : goal.decreases-run_block
decreases-run_block l = 3 * l.a.now.left + 2

abbrev pub decreases-run_statement : goal.decreases-run_statement
decreases-run_statement l = 3 * l.a.now.left + 1

abbrev pub decreases-run_loop : goal.decreases-run_loop
decreases-run_loop l = 3 * l.a.now.left

abbrev pub decreases-run_branch : goal.decreases-run_branch
decreases-run_branch l = 3 * l.a.now.left

-- the run of the whole block is the run from here on
abbrev pub invariant-run_block-loop-s : goal.invariant-run_block-loop-s
invariant-run_block-loop-s l =
    Whole l.output × (Stands (rows l.records) l.from l.a → Stands (rows l.records) l.i l.a)
    × (run (layout l.arrays) (tree_at (rows l.records) l.from) (counters l.a) (state l.initial.machine (words l.initial.output))
    ≡ run (layout l.arrays) (tree_at (rows l.records) l.i) (counters l.a) (state l.machine (words l.output)))

abbrev pub decreases-run_block-loop-s : goal.decreases-run_block-loop-s
decreases-run_block-loop-s l = l.records.part.count - l.i

-- m passes have been made
abbrev pub invariant-run_loop-loop-m : goal.invariant-run_loop-loop-m
invariant-run_loop-loop-m l =
    Whole l.output
    × Passed (λ m s. run (layout l.arrays) (tree_at (rows l.records) (l.i + 1)) (in_pass (loop l.l) (counters l.a) m) s) l.l.passes (state l.initial.machine (words l.initial.output)) l.m (state l.machine (words l.output))
