-- `memory::carry_one` meets its contract, by the side.
use borrow.Author.Rules.{rules}
use Rattle.kernel.specs.Named.{side}
use Rattle.memory.specs.Items.{carried_one}
use Rattle.memory.proofs.carry_one.Goals as goal

pub returns-in-Input : goal.returns-in-Input
unfolding carried_one side
returns-in-Input c = search rules

pub returns-in-Output : goal.returns-in-Output
unfolding carried_one side
returns-in-Output c = search rules
