use Prim.Native.Nat.{◌≤◌}
use mathlib.Core.Path.{◌≡◌}
use lib.ListN.{drop}
use Rattle.kernel.specs.Reading.{arrays_fit}
use Rattle.parts.specs.Tables.{rows}
use Rattle.read_file.proofs.arrays_fit.Given as goal

abbrev pub invariant-loop-i : goal.invariant-loop-i
invariant-loop-i l = record {
  inputs : l.inputs ≤ 8192;
  outputs : l.outputs ≤ 8192;
  rest : arrays_fit l.i l.inputs l.outputs (drop l.i (rows l.arrays)) ≡ arrays_fit 0 0 0 (rows l.arrays);
}
