-- `forms::zeros` meets its contract.
use mathlib.Core.Path.{◌∙◌}
use lib.IntN.{pos}
use Rattle.std.proofs.Common.{rules, tests}
use Rattle.std.proofs.lemmas.Iterator.{YieldsList-from_slice}
use Rattle.std.proofs.lemmas.Iterator.Search.{all_from_yields_List}
use Rattle.std.specs.Ordering.{int_eq}
use Rattle.forms.proofs.Shared.{all_zero}
use Rattle.forms.proofs.zeros.Goals as goal

pub returns : goal.returns
returns c =
    all_from_yields_List (λ x. int_eq x (pos 0)) _ _ c.all.result c.all.ensures.ran
    (YieldsList-from_slice c.args.xs.now cc)
    (λ x b q k. search (rules, tests))
    ∙ all_zero c.args.xs.now
