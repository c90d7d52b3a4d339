-- `Pair::stream_of` meets its contract.
use borrow.Author.Rules.{rules}
use Rattle.kernel.specs.Named.{rule}
use Rattle.check_rules.specs.View.{stream_of}
use Rattle.check_rules.proofs.Pair.stream_of.Goals as goal

pub returns-in-Ok-Read : goal.returns-in-Ok-Read
unfolding rule stream_of
returns-in-Ok-Read c = search rules

pub returns-in-Ok-Fill : goal.returns-in-Ok-Fill
unfolding rule stream_of
returns-in-Ok-Fill c = search rules

pub returns-in_default : goal.returns-in_default
unfolding rule stream_of
returns-in_default c = search rules

pub returns-in_default-2 : goal.returns-in_default-2
unfolding rule stream_of
returns-in_default-2 c = search rules
