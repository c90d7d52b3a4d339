use mathlib.Core.Path.{◌≡◌}
use mathlib.Core.List.{[]}
use Rattle.numbers.proofs.Rows.{From}
use Rattle.forms.specs.Code.{loops}
use Rattle.parts.specs.Arrays.{arrays_of}
use Rattle.check_file.proofs.Counted.{counted, seen}
use Rattle.check_file.proofs.all_counted.Given as goal

abbrev pub invariant-loop-j : goal.invariant-loop-j
invariant-loop-j l = From counted (arrays_of l.arrays.file.now l.arrays.count) (seen l.arrays.file.now l.arrays.count l.l.positions) l.j × (loops l.around ≡ [])
