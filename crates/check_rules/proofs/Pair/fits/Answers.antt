-- `Pair::fits` meets its contract: a function for each rule.
use borrow.Author.Rules.{rules}
use Rattle.kernel.specs.Named.{code, rule}
use Rattle.kernel.specs.Check as Check
use Rattle.check_rules.proofs.Pair.fits.Goals as goal

pub returns-in-Ok-Same : goal.returns-in-Ok-Same
unfolding Check.fits rule
returns-in-Ok-Same c = search rules

pub returns-in-Ok-Read : goal.returns-in-Ok-Read
unfolding Check.fits rule code
returns-in-Ok-Read c = search rules

pub returns-in-Ok-Fill : goal.returns-in-Ok-Fill
unfolding Check.fits Check.is_buffer rule
returns-in-Ok-Fill c = search rules

pub returns-in-Ok-Use : goal.returns-in-Ok-Use
unfolding Check.fits Check.is_buffer rule
returns-in-Ok-Use c = search rules

pub returns-in-Ok-Move : goal.returns-in-Ok-Move
unfolding Check.fits Check.is_buffer rule
returns-in-Ok-Move c = search rules

pub returns-in-Ok-Write : goal.returns-in-Ok-Write
unfolding Check.fits rule code
returns-in-Ok-Write c = search rules

pub returns-in-Ok-If : goal.returns-in-Ok-If
unfolding Check.fits rule
returns-in-Ok-If c = search rules

pub returns-in-Ok-Else : goal.returns-in-Ok-Else
unfolding Check.fits rule code
returns-in-Ok-Else c = search rules

pub returns-in-Ok-End : goal.returns-in-Ok-End
unfolding Check.fits rule code
returns-in-Ok-End c = search rules

pub returns-in-Err : goal.returns-in-Err
unfolding Check.fits
returns-in-Err c = search rules
