-- `Kernel::sections`: what reads has its sections.
use Rattle.parts.proofs.Parts.{fills}
use Rattle.parts.proofs.Kernel.sections.Goals as goal

pub invariant_of-result : goal.invariant_of-result
invariant_of-result c = record { fills = fills c.args.self.file.now c.args.self.counts c.args.self.reads }
