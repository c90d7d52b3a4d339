-- `read_records::zeros` meets its contract.
use mathlib.Core.Path.{◌∙◌}
use lib.Dec.{eqb}
use Rattle.std.proofs.Common.{rules, tests}
use Rattle.std.proofs.lemmas.Iterator.{YieldsList-from_slice}
use Rattle.std.proofs.lemmas.Iterator.Search.{all_from_yields_List}
use Rattle.kernel.specs.Reading as Reading
use Rattle.read_records.proofs.Tests.{all_zeros}
use Rattle.read_records.proofs.zeros.Goals as goal

pub returns : goal.returns
unfolding Reading.zeros
returns c =
    all_from_yields_List (λ w. eqb w 0) _ _ c.all.result c.all.ensures.ran
    (YieldsList-from_slice c.args.ws.now cc)
    (λ x b q k. search (rules, tests))
    ∙ all_zeros c.args.ws.now
