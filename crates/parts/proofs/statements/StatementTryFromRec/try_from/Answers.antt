-- `Statement::try_from` meets its contract: an arm for each code.
use mathlib.Core.Path.{sym, ap, ◌∙◌}
use Rattle.kernel.specs.File as File
use Rattle.kernel.specs.Named.{code}
use Rattle.kernel.specs.declared.codes.Code.TheVariants as C
use Rattle.kernel.proofs.Named.{says_nothing}
use Rattle.kernel.proofs.Sayings.{says_set, says_copy, says_work, says_load, says_store, says_read, says_write, says_for, says_if, says_else, says_end}
use Rattle.parts.specs.Records.{rec}
use Rattle.parts.specs.Statements.{op, statement, stated}
use Rattle.parts.proofs.Saying.{means, stated_err}
use Rattle.parts.proofs.statements.StatementTryFromRec.try_from.Goals as goal

pub returns-in_err-try_from : goal.returns-in_err-try_from
returns-in_err-try_from c = stated_err c.from_residual.result c.from_residual.ensures.0 ∙ sym (says_nothing (rec c.args.r) (sym c.try_from.ensures ∙ c.in_err-try_from.was))

pub returns-in-Set : goal.returns-in-Set
unfolding code op statement stated
returns-in-Set c = ap (λ f. File.does (File.set c.args.r.p f)) c.form.ensures ∙ sym (says_set (rec c.args.r) (means c.args.r.code C.Set c.try_from.ensures (c.in_ok-try_from.was) c.in-Set.is))

pub returns-in-Copy : goal.returns-in-Copy
unfolding code op statement stated
returns-in-Copy c = sym (says_copy (rec c.args.r) (means c.args.r.code C.Copy c.try_from.ensures (c.in_ok-try_from.was) c.in-Copy.is))

pub returns-in-Work : goal.returns-in-Work
unfolding code op statement stated
returns-in-Work c = ap (λ o. File.does (File.work o c.args.r.p c.args.r.q c.args.r.k)) c.from.ensures ∙ sym (says_work (rec c.args.r) (means c.args.r.code C.Work c.try_from.ensures (c.in_ok-try_from.was) c.in-Work.is))

pub returns-in-Load : goal.returns-in-Load
unfolding code op statement stated
returns-in-Load c = ap (λ f. File.does (File.load c.args.r.p c.args.r.q f)) c.form-in-Load.ensures ∙ sym (says_load (rec c.args.r) (means c.args.r.code C.Load c.try_from.ensures (c.in_ok-try_from.was) c.in-Load.is))

pub returns-in-Store : goal.returns-in-Store
unfolding code op statement stated
returns-in-Store c = ap (λ f. File.does (File.store c.args.r.p c.args.r.q f)) c.form-in-Store.ensures ∙ sym (says_store (rec c.args.r) (means c.args.r.code C.Store c.try_from.ensures (c.in_ok-try_from.was) c.in-Store.is))

pub returns-in-Read : goal.returns-in-Read
unfolding code op statement stated
returns-in-Read c = sym (says_read (rec c.args.r) (means c.args.r.code C.Read c.try_from.ensures (c.in_ok-try_from.was) c.in-Read.is))

pub returns-in-Write : goal.returns-in-Write
unfolding code op statement stated
returns-in-Write c = sym (says_write (rec c.args.r) (means c.args.r.code C.Write c.try_from.ensures (c.in_ok-try_from.was) c.in-Write.is))

pub returns-in-For : goal.returns-in-For
unfolding code op statement stated
returns-in-For c = ap (λ l. File.for l) c.for_loop.ensures ∙ sym (says_for (rec c.args.r) (means c.args.r.code C.For c.try_from.ensures (c.in_ok-try_from.was) c.in-For.is))

pub returns-in-If : goal.returns-in-If
unfolding code op statement stated
returns-in-If c = sym (says_if (rec c.args.r) (means c.args.r.code C.If c.try_from.ensures (c.in_ok-try_from.was) c.in-If.is))

pub returns-in-Else : goal.returns-in-Else
unfolding code op statement stated
returns-in-Else c = sym (says_else (rec c.args.r) (means c.args.r.code C.Else c.try_from.ensures (c.in_ok-try_from.was) c.in-Else.is))

pub returns-in-End : goal.returns-in-End
unfolding code op statement stated
returns-in-End c = sym (says_end (rec c.args.r) (means c.args.r.code C.End c.try_from.ensures (c.in_ok-try_from.was) c.in-End.is))
