-- The code's counters, seen as the machine's.
use Rattle.std.specs.Prelude.{ℕ, ◌^◌, pos, slice_index_or}
use Rattle.numbers.specs.Bounds.{Small}
use Rattle.kernel.specs.Machine as Machine
use Rattle.run_loops.specs.declared.Counters.{Counters}

abbrev pub counters : Counters → Machine.Counters
counters a = record { level = a.level; values = a.values }

-- each counter is small
pub record CountersSmall (a : Counters) : Type 0 where
  pub each : (level : ℕ) → Small (2 ^ 17) (slice_index_or a.values level (pos 0))
