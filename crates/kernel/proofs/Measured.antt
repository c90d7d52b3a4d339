-- The starred lines of "Measured by hand" hold of the definitions: antt computes them from the files' bytes.
use mathlib.Core.Path.{refl}
use Rattle.kernel.specs.Measured.{section, neg, counted, file, without, input_array, output_array, array_side, stream_side, ties, smoother, smooth, with_arrays, with_ties, dividing_by, reckoner, lent, run_numbers, copy_numbers, answer, Computes, starred}
use Rattle.kernel.proofs.Open.{kernel_open}

pub measured : Computes starred
unfolding kernel_open section neg counted file without input_array output_array array_side stream_side ties smoother smooth with_arrays with_ties dividing_by reckoner lent run_numbers copy_numbers answer starred
measured = refl
