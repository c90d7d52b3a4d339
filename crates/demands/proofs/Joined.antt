-- Demand 3 of the calls, and all three: each call of a job does its work, for the one before leaves what it wants; so the job comes to the two runs that agree.
use Prim.Native.Nat.{ℕ, ◌*◌}
use mathlib.Core.Path.{◌≡◌, sym, ap, ◌∙◌}
use mathlib.Core.List.{List}
use lib.ListN.{length}
use Rattle.numbers.specs.Result.{ok}
use Rattle.numbers.specs.Words.{words, bytes}
use Rattle.numbers.proofs.Areas.{bytes_length}
use Rattle.kernel.specs.File.{Kernel, input, output, length_of, count_of}
use Rattle.kernel.specs.Reading.{read_file}
use Rattle.kernel.specs.Memory.{Ran, total, laid_out, put_back, array_ran, stream_ran, array_run, stream_run, lay_out, putting_back}
use Rattle.agreement.specs.Agreement.{Agree}
use Rattle.agreement.proofs.Agreed.{agreement}
use Rattle.agreement.proofs.Ended.{lengths_kept}
use Rattle.demands.specs.Demands.{Job, Called, Sized, Agreed, Demand3, Demands}
use Rattle.check_file.proofs.One.{accepts}
use Rattle.demands.proofs.Wrapped.{words_below, laid_read, laid_length, put_back_read}
use Rattle.demands.proofs.Answered.{works, tells, run_answer, move_finished, area_left}
use Rattle.demands.proofs.Kept.{demand_1}
use Rattle.demands.proofs.Exactly.{demand_2}

module _ (j : Job) (K : Kernel) where
  -- what the job comes to
  abbrev laid : List ℕ
  laid = laid_out K (words j.memory)

  abbrev array : Ran
  array = array_ran K (words j.memory)

  abbrev stream : Ran
  stream = stream_ran K laid

  module _ (reads : read_file j.file ≡ ok K) (called : Called j) (sized : Sized K j) where
    -- ---- the array run and laying out read the input

    array_ran_so : array_run j.file j.memory j.outputs_before ≡ ok array
    unfolding array_run
    array_ran_so = works (total input length_of) (total output length_of) array_ran j.file j.memory j.outputs_before K reads sized.memory sized.outputs

    laid_so : lay_out j.file j.memory j.streams_before ≡ ok laid
    unfolding lay_out
    laid_so = works (total input length_of) (total input count_of) laid_out j.file j.memory j.streams_before K reads sized.memory sized.streams

    outputs_left : j.outputs ≡ bytes array.memory
    outputs_left = area_left (λ r. r.memory) j.outputs_before array called.array_run.1 array_ran_so

    -- ---- the stream run reads what was laid out

    streams_left : j.streams ≡ bytes laid
    streams_left = area_left (λ m. m) j.streams_before laid called.laying_out.1 laid_so

    streams_length : length j.streams ≡ 4 * total input count_of K
    streams_length = ap length streams_left ∙ bytes_length laid ∙ ap (λ n. 4 * n) (laid_length K (words j.memory))

    streams_words : words j.streams ≡ laid
    streams_words = ap words streams_left ∙ laid_read K (words_below sized.memory_bytes)

    stream_ran_so : stream_run j.file j.streams j.items_before ≡ ok stream
    unfolding stream_run
    stream_ran_so =
        works (total input count_of) (total output count_of) stream_ran j.file j.streams j.items_before K reads streams_length sized.items
        ∙ ap (λ ws. ok (stream_ran K ws)) streams_words

    -- ---- putting back reads what the stream run left

    items_left : j.items ≡ bytes stream.memory
    items_left = area_left (λ r. r.memory) j.items_before stream called.stream_run.1 stream_ran_so

    items_length : length j.items ≡ 4 * total output count_of K
    items_length = ap length items_left ∙ bytes_length stream.memory ∙ ap (λ n. 4 * n) (lengths_kept K laid).stream_run

    placed_so : putting_back j.file j.items j.back_before ≡ ok (put_back K (words j.items))
    unfolding putting_back
    placed_so = works (total output count_of) (total output length_of) put_back j.file j.items j.back_before K reads items_length sized.back

    back_left : j.back ≡ bytes (put_back K stream.memory)
    back_left =
        area_left (λ m. m) j.back_before (put_back K (words j.items)) called.putting_back.1 placed_so
        ∙ ap (λ m. bytes (put_back K (words m))) items_left ∙ put_back_read K stream.memory

    -- ---- and the two runs agree

    joined : Agree K array stream → Agreed K j (tells array) (tells stream)
    joined agree = record {
      array_answer = run_answer array called.array_run.0 array_ran_so;
      stream_answer = run_answer stream called.stream_run.0 stream_ran_so;
      all_laid = move_finished j.laid laid called.laying_out.0 laid_so;
      all_placed = move_finished j.placed (put_back K (words j.items)) called.putting_back.0 placed_so;
      end_alike = agree.end_alike;
      all_read = agree.all_read;
      all_written = agree.all_written;
      array_sticks = agree.array_sticks;
      stream_sticks = agree.stream_sticks;
      outputs = back_left ∙ ap bytes agree.outputs ∙ sym outputs_left;
    }

demand_3 : Demand3
demand_3 j called accepted K reads sized =
    let agree = agreement j.file j.memory K reads (accepts j.file j.checked called.check accepted) sized.memory in
    (tells (array j K), tells (stream j K), joined j K reads called sized agree)

-- all three demands, of this code
pub demands : Demands
demands = record { first = demand_1; second = demand_2; third = demand_3 }
