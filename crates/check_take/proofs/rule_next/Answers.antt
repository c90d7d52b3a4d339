-- `check_take::rule_next` meets its contract.
use mathlib.Core.Path.{◌≡◌, sym, ap, ◌∙◌}
use borrow.Author.Rules.{rules}
use lib.ListN.{get_or}
use Rattle.kernel.specs.File.{nothing}
use Rattle.kernel.specs.Named.{ruled}
use Rattle.parts.specs.Parts.{records_in, derivation_part}
use Rattle.parts.proofs.Parts.{derivation_is}
use Rattle.check_take.specs.View.{rule_code, rule_or}
use Rattle.check_take.proofs.Decoded.{decoded_by}
use Rattle.check_take.proofs.rule_next.Goals.{After-code-code}
use Rattle.check_take.proofs.rule_next.Goals as goal

module _ (c : After-code-code) where
  code_is : c.code-code.result ≡ rule_code c.args.kernel c.args.at
  code_is =
      let k = c.args.kernel in
      let i = c.args.at.rule in
      let s = c.sections.ensures in
      let t = c.derivation.ensures in
      c.code-code.ensures
      ∙ (λ j. (get_or (records_in ((t.0 ∙ s.0) j).now ((t.1 ∙ ap derivation_part s.1) j)) i nothing).code)
      ∙ ap (λ rs. (get_or rs i nothing).code) (sym (derivation_is k.file.now k.counts))

pub returns : goal.returns
returns c =
    decoded_by c.args.at c.try_from.result c.map_err.result c.map_err.ensures.cases (λ x p. search rules) (λ e q. search rules)
    ∙ ap (rule_or c.args.at) (c.try_from.ensures ∙ ap ruled (code_is (goal.at.returns c).After-code-code))
