-- The theorem at work: the smoother is accepted, by computation, so its two programs agree on every input memory of its size.
use mathlib.Core.Path.{◌≡◌, refl, sym, ap, ◌∙◌}
use Prim.Native.Nat.{ℕ, ◌*◌}
use native.Mathlib.Omega.{arith}
use Rattle.numbers.specs.Result.{Result, ok, stop}
use Rattle.kernel.specs.File.{Kernel, input, length_of}
use Rattle.kernel.specs.Reading.{Fault, read_file}
use Rattle.kernel.specs.Memory.{total}
use Rattle.kernel.specs.Answers.{accepted, checked_file, check}
use Rattle.kernel.specs.Measured.{section, neg, counted, file, input_array, output_array, array_side, stream_side, ties, smoother, smooth}
use Rattle.kernel.proofs.Open.{kernel_open}
use Rattle.agreement.specs.Agreement.{SmootherAgrees}
use Rattle.agreement.proofs.Agreed.{agreement}

smooth_accepted : check smooth ≡ accepted
unfolding kernel_open section neg counted file input_array output_array array_side stream_side ties smoother smooth
smooth_accepted = refl

-- the cells of its inputs
inputs : Result Fault Kernel → ℕ
inputs (ok K) = total input length_of K
inputs (stop f) = 0

smooth_inputs : inputs (read_file smooth) ≡ 4
unfolding kernel_open section neg counted file input_array output_array array_side stream_side ties smoother smooth inputs
smooth_inputs = refl

-- what is accepted was read
accepted_reads : (r : Result Fault Kernel) → checked_file r ≡ accepted → (K : Kernel) × (r ≡ ok K)
unfolding checked_file
accepted_reads (ok K) h = (K, refl)
accepted_reads (stop f) h = absurd (let z : ◌≡◌ {A = ℕ} 0 1 = cc in omega arith)

pub smoother_agrees : SmootherAgrees
unfolding check inputs
smoother_agrees memory size =
    let (K, e) = accepted_reads (read_file smooth) smooth_accepted in
    (K, e, agreement smooth memory K e smooth_accepted (size ∙ ap (λ n. 4 * n) (sym smooth_inputs ∙ ap inputs e)))
