-- What a file that reads holds, by its counts: its parts are the kernel's sections, the counts their lengths, and they lie in it.
use Prim.Native.Nat.{ℕ}
use mathlib.Core.Path.{◌≡◌, refl}
use mathlib.Core.List.{List}
use native.Mathlib.Omega.{arith}
use lib.ListN.{length}
use Rattle.numbers.proofs.Results.{on_at}
use Rattle.kernel.specs.File.{Kernel}
use Rattle.kernel.specs.Guarantees.{Reads}
use Rattle.kernel.proofs.Readable.{file_reads}
use Rattle.kernel.proofs.Lengths.{file_length}
use Rattle.parts.specs.declared.Counts.{Counts}
use Rattle.parts.specs.Parts.{records_in, arrays_part, array_part, stream_part, derivation_part, kernel, ReadAs, Few, Fills, Lies}
use Rattle.parts.specs.Arrays.{arrays_of, Arrays}
use Rattle.parts.proofs.Records.{count_is}

-- counts that fill a file: where its parts lie
module _ (file : List ℕ) (c : Counts) (f : Fills file c) where
  pub arrays_lie : Lies 8 file (arrays_part c)
  arrays_lie = record { inside = omega (arith, f.whole); near = omega arith; few = f.few.arrays }

  pub array_lies : Lies 256 file (array_part c)
  array_lies = record { inside = omega (arith, f.whole); near = omega (arith, f.few.arrays); few = f.few.array_statements }

  pub stream_lies : Lies 256 file (stream_part c)
  stream_lies = record { inside = omega (arith, f.whole); near = omega (arith, f.few.arrays, f.few.array_statements); few = f.few.stream_statements }

  pub derivation_lies : Lies 1024 file (derivation_part c)
  derivation_lies = record { inside = omega (arith, f.whole); near = omega (arith, f.few.arrays, f.few.array_statements, f.few.stream_statements); few = f.few.rules }

module _ (file : List ℕ) (c : Counts) where
  abbrev pub K : Kernel
  K = kernel file c

  -- ---- the sections are the parts

  pub array_program_is : K.array_program ≡ records_in file (array_part c)
  unfolding kernel
  array_program_is = refl

  pub stream_program_is : K.stream_program ≡ records_in file (stream_part c)
  unfolding kernel
  stream_program_is = refl

  pub derivation_is : K.derivation ≡ records_in file (derivation_part c)
  unfolding kernel
  derivation_is = refl

  pub arrays_are : K.arrays ≡ arrays_of file c.a
  unfolding kernel
  arrays_are = refl

  pub registers_are : K.registers ≡ c.r
  unfolding kernel
  registers_are = refl

  pub buffers_are : K.buffers ≡ c.b
  unfolding kernel
  buffers_are = refl

  -- ---- the counts are their lengths

  pub arrays_count : length K.arrays ≡ c.a
  unfolding kernel
  arrays_count = count_is file (arrays_part c)

  pub array_count : length K.array_program ≡ c.s
  unfolding kernel
  array_count = count_is file (array_part c)

  pub stream_count : length K.stream_program ≡ c.t
  unfolding kernel
  stream_count = count_is file (stream_part c)

  pub rule_count : length K.derivation ≡ c.d
  unfolding kernel
  rule_count = count_is file (derivation_part c)

  module _ (e : ReadAs file c) where
    pub reads : Reads K
    reads = on_at (file_reads file) e

    pub few : Few c
    few = record {
      registers = omega (arith, reads.few_registers, registers_are);
      buffers = omega (arith, reads.few_buffers, buffers_are);
      arrays = omega (arith, reads.few_arrays, arrays_count);
      array_statements = omega (arith, reads.few_array_statements, array_count);
      stream_statements = omega (arith, reads.few_stream_statements, stream_count);
      rules = omega (arith, reads.few_rules, rule_count);
    }

    pub fills : Fills file c
    fills = record {
      few = few;
      whole = let h = on_at (file_length file) e in omega (arith, h, arrays_count, array_count, stream_count, rule_count);
    }

    pub arrays_ready : Arrays file c.a
    unfolding kernel
    arrays_ready = record { few = few.arrays; there = omega (arith, fills.whole); fit = reads.arrays }
