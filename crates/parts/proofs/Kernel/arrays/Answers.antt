-- `Kernel::arrays`: what reads has its arrays.
use Rattle.numbers.proofs.Results.{on_at}
use Rattle.kernel.proofs.Readable.{arrays_found}
use Rattle.parts.specs.Parts.{kernel}
use Rattle.parts.proofs.Parts.{arrays_ready}
use Rattle.parts.proofs.Kernel.arrays.Goals as goal

pub invariant_of-result : goal.invariant_of-result
unfolding kernel
invariant_of-result c =
    let s = c.args.self in
    let a = arrays_ready s.file.now s.counts s.reads in
    record { few = a.few; there = a.there; fit = on_at (arrays_found s.file.now) s.reads }
