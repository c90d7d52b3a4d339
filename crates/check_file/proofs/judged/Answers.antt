-- `check_file::judged` meets its contract.
use mathlib.Core.Path.{sym, ap, ◌∙◌}
use Rattle.kernel.specs.Answers as Answers
use Rattle.check_file.specs.View.{verdict, ended}
use Rattle.check_file.proofs.Judging.{low}
use Rattle.check_file.proofs.judged.Goals as goal

pub refused_at-requires : goal.refused_at-requires
unfolding ended
refused_at-requires c = low c.args.kernel c.in-Err.r (sym c.in-Err.ensures)

pub returns-in-Ok : goal.returns-in-Ok
unfolding ended verdict Answers.checked
returns-in-Ok c = ap Answers.checked c.in-Ok.ensures

pub returns-in-Err : goal.returns-in-Err
unfolding ended verdict Answers.checked
returns-in-Err c = ap Answers.refused c.refused_at.ensures ∙ ap Answers.checked c.in-Err.ensures
