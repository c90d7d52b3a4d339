use mathlib.Core.List.{List, []}
use Prim.Native.Nat.{◌-◌}
use lib.ListN.{get_or}
use Rattle.numbers.proofs.Rows.{From}
use Rattle.kernel.specs.Named as Named
use Rattle.kernel.specs.declared.codes.Code.{Code}
use Rattle.kernel.specs.Reading.{Kind, table, holds}
use Rattle.read_records.specs.View.{scope}
use Rattle.read_records.proofs.Scope.row_fits.Given as goal

-- the code's row of the table
abbrev pub kinds : Code → List Kind
kinds code = get_or table (Named.code code - 1) []

abbrev pub invariant-loop-field : goal.invariant-loop-field
invariant-loop-field l = From (holds (scope l.self)) (kinds l.code) l.numbers l.field
