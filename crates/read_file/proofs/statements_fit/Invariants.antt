use mathlib.Core.Path.{◌≡◌}
use mathlib.Core.List.{[]}
use lib.ListN.{drop}
use Rattle.kernel.specs.Named as Named
use Rattle.kernel.specs.Reading.{statements_fit}
use Rattle.parts.specs.Tables.{rows}
use Rattle.read_records.specs.View.{scope}
use Rattle.read_blocks.specs.View.{opens}
use Rattle.read_file.proofs.statements_fit.Given as goal

abbrev pub invariant-loop-i : goal.invariant-loop-i
invariant-loop-i l =
    statements_fit (scope l.held) (Named.section l.section) l.i (opens l.«open») (drop l.i (rows l.program)) ≡ statements_fit (scope l.held) (Named.section l.section) 0 [] (rows l.program)
