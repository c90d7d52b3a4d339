-- `Line::asked` meets its contract: a function for each rule, whose statements name what is there.
use mathlib.Core.Path.{◌≡◌, sym, ◌∙◌}
use borrow.Author.Rules.{rules}
use Rattle.kernel.specs.Named.{misfit, rule}
use Rattle.parts.specs.Parts.{kernel}
use Rattle.parts.specs.Arrays.{arrays_of}
use Rattle.parts.proofs.Parts.{arrays_are}
use Rattle.check_rules.specs.View.{asked, answered}
use Rattle.check_rules.proofs.Line.asked.Goals.{After-arrays-arrays}
use Rattle.check_rules.proofs.Line.asked.Goals as goal

-- the kernel's arrays are those of the table
module _ (c : After-arrays-arrays) where
  arrays_as : (kernel c.args.self.kernel.file.now c.args.self.kernel.counts).arrays ≡ arrays_of c.arrays-arrays.result.file.now c.arrays-arrays.result.count
  arrays_as =
      let k = c.args.self.kernel in
      let t = c.arrays-arrays.ensures in
      arrays_are k.file.now k.counts ∙ (λ i. arrays_of (sym t.0 i).now (sym t.1 i))

pub item_asked-requires : goal.item_asked-requires
unfolding rule
item_asked-requires c = search rules

pub fill_asked-requires : goal.fill_asked-requires
unfolding rule
fill_asked-requires c = search rules

pub returns-in-Same : goal.returns-in-Same
unfolding rule asked answered
returns-in-Same c = search rules

pub returns-in-Read : goal.returns-in-Read
unfolding rule asked
returns-in-Read c =
    c.item_asked.ensures (kernel c.args.self.kernel.file.now c.args.self.kernel.counts) (arrays_as (goal.at.returns-in-Read c).After-arrays-arrays) ∙ search rules

pub returns-in-Fill : goal.returns-in-Fill
unfolding rule asked
returns-in-Fill c =
    c.fill_asked.ensures (kernel c.args.self.kernel.file.now c.args.self.kernel.counts) (arrays_as (goal.at.returns-in-Fill c).After-arrays-arrays) ∙ search rules

pub returns-in-Use : goal.returns-in-Use
unfolding rule asked
returns-in-Use c = search rules

pub returns-in-Move : goal.returns-in-Move
unfolding rule asked
returns-in-Move c = search rules

pub returns-in_default : goal.returns-in_default
unfolding rule asked answered misfit
returns-in_default c = search rules
