-- `planner::refused_word` meets its contract: the fourth part is 0.
use mathlib.Core.List.{[], ◌∷◌}
use Rattle.kernel.specs.Answers.{fault_numbers}
use Rattle.kernel.specs.Named.{unread}
use Rattle.planner.proofs.Parts.{tells_before}
use Rattle.planner.proofs.refused_word.Goals as goal

pub returns : goal.returns
unfolding fault_numbers unread
returns c =
    rw (← c.from.ensures, ← c.section_number.ensures) (tells_before _ (_ ∷ _ ∷ _ ∷ []) c.packed.ensures)
