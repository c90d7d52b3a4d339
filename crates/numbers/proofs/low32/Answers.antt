-- `numbers::low32` meets its contract: the mask leaves the low half of the bits.
use Rattle.std.proofs.Common.{◌≡◌, ◌%◌, ◌^◌, pos, ap, ◌∙◌, arith, w64, to_z, of_z}
use lib.Bits.{and_mask, bit_and}
use mir.Facts.{to_z_pos}
use Rattle.numbers.proofs.Signs.{low_bits}
use Rattle.numbers.proofs.low32.Goals.{Start}
use Rattle.numbers.proofs.low32.Goals as goal

-- what the mask leaves, read as signed
plain : (c : Start) → to_z w64 (bit_and (of_z w64 c.args.z) 4294967295) ≡ pos (of_z w64 c.args.z % 2 ^ 32)
plain c = ap (to_z w64) (and_mask (of_z w64 c.args.z) 32) ∙ to_z_pos w64 (omega arith)

pub overflow_cast-result : goal.overflow_cast-result
overflow_cast-result c = rw (plain c) (tt, record { fits = omega arith })

pub returns : goal.returns
returns c = rw (plain c) (low_bits c.args.z c.ranges.z)
