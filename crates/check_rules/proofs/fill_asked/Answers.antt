-- `check_rules::fill_asked` meets its contract: one test.
use mathlib.Core.Path.{ap, ◌∙◌}
use Rattle.numbers.specs.Result.{need}
use Rattle.forms.specs.Form as F
use Rattle.forms.specs.Code.{form, loops}
use Rattle.kernel.specs.File.{count_of}
use Rattle.kernel.specs.Named.{misfit}
use Rattle.parts.proofs.Arrays.{array_as}
use Rattle.check_rules.specs.View.{room_left}
use Rattle.check_rules.proofs.fill_asked.Goals as goal

pub returns : goal.returns
unfolding misfit room_left
returns c K k =
    let a = c.args in
    c.need.ensures
    ∙ ap (need 11) (c.below_count.ensures ∙ ap (λ r. F.below (loops a.around) (count_of r) (form a.position)) (array_as a.arrays.file.now a.arrays.count a.s.q c.requires.0 K k))
