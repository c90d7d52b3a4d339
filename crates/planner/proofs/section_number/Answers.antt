-- `planner::section_number` meets its contract.
use mathlib.Core.Path.{sym, ap, ◌∙◌}
use Rattle.kernel.specs.Named.{section_of}
use Rattle.planner.proofs.section_number.Goals as goal

pub returns-in-Some : goal.returns-in-Some
unfolding section_of
returns-in-Some c = c.from.ensures ∙ sym (ap section_of c.in-Some.is)

pub returns-in-None : goal.returns-in-None
unfolding section_of
returns-in-None c = sym (ap section_of c.in-None.is)
