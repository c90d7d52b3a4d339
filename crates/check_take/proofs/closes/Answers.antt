-- `check_take::closes` meets its contract: which rule it is, then whether it fits.
use mathlib.Core.Path.{◌≡◌, sym, ◌∙◌}
use borrow.Author.Rules.{rules}
use Rattle.std.proofs.Common.{Ok}
use Rattle.parts.proofs.Parts.{few}
use Rattle.check_take.specs.View.{due}
use Rattle.check_take.proofs.Decoded.{no_other}
use Rattle.check_take.proofs.Comes.{fits_next}
use Rattle.check_take.proofs.closes.Goals.{Then-eq}
use Rattle.check_take.proofs.closes.Goals as goal

-- the rule is that
module _ (c : Then-eq) where
  due_is : due c.args.kernel c.args.at ≡ Ok c.args.rule
  due_is =
      let is : c.rule_next.result ≡ Ok c.args.rule = search rules in
      sym c.rule_next.ensures ∙ is

pub fits-requires : goal.fits-requires
fits-requires c =
    let k = c.args.kernel in
    (no_other c.requires.1, (few k.file.now k.counts k.reads).registers)

pub returns-then-eq : goal.returns-then-eq
returns-then-eq c =
    let said = fits_next c.args.rule c.pair_next.ensures c.fits.ensures in
    record {
      is = λ p. due_is (goal.at.returns-then-eq c).Then-eq;
      fits = λ p d. sym (said d) ∙ p;
      not = λ p e d. sym (said d) ∙ p;
    }
