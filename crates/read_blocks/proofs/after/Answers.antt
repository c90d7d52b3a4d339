-- `read_blocks::after` meets its contract: an arm for each statement that opens, turns or closes a block, and one for the others.
use mathlib.Core.Path.{◌≡◌, refl, ap, ◌∙◌}
use native.Mathlib.Omega.{arith}
use Rattle.forms.specs.Code.{loop}
use Rattle.kernel.specs.File as File
use Rattle.kernel.specs.Reading.{all_passes, after}
use Rattle.parts.specs.Records.{rec}
use Rattle.parts.specs.Statements.{statement, stated}
use Rattle.read_blocks.specs.Blocks.{block}
use Rattle.read_blocks.specs.View.{opens, nested}
use Rattle.read_blocks.proofs.Statements.{code_of_for, loop_of_for}
use Rattle.read_blocks.proofs.after.Goals.{In-Ok-For}
use Rattle.read_blocks.proofs.after.Goals as goal

-- the record is the for that was found
says_for : (c : In-Ok-For) → File.for (loop c.in-Ok-For.l) ≡ File.statement (rec c.args.r)
unfolding statement stated
says_for c = rw c.in-Ok-For.field-0-is at c.in-Ok-For.ensures

pub for_opened-requires : goal.for_opened-requires
for_opened-requires c =
    let e = says_for (goal.at.for_opened-requires c).In-Ok-For in
    let p = c.requires (code_of_for (rec c.args.r) e) in
    let l = ap (λ l. l.passes) (loop_of_for (rec c.args.r) e) in
    (omega (arith, p.0, l), omega (arith, p.1, l))

pub opened-requires : goal.opened-requires
unfolding block all_passes
opened-requires c = (omega arith, omega arith)

pub returns-in-Ok-Does : goal.returns-in-Ok-Does
unfolding statement stated after
returns-in-Ok-Does c = (c.after_op.ensures ∙ ap (λ s. after s (opens c.args.n.now)) (rw c.in-Ok-Does.field-0-is at c.in-Ok-Does.ensures), λ e. refl)

pub returns-in-Ok-For : goal.returns-in-Ok-For
unfolding statement stated after
returns-in-Ok-For c = (c.for_opened.ensures.0 ∙ ap (λ s. after s (opens c.args.n.now)) (rw c.in-Ok-For.field-0-is at c.in-Ok-For.ensures), c.for_opened.ensures.1)

pub returns-in-Ok-If : goal.returns-in-Ok-If
unfolding statement stated after block
returns-in-Ok-If c = (c.opened.ensures.0 ∙ ap (λ s. after s (opens c.args.n.now)) (rw c.in-Ok-If.field-0-is at c.in-Ok-If.ensures), c.opened.ensures.1)

pub returns-in-Ok-Else : goal.returns-in-Ok-Else
unfolding statement stated after
returns-in-Ok-Else c = (c.at_else.ensures.0 ∙ ap (λ s. after s (opens c.args.n.now)) (rw c.in-Ok-Else.field-0-is at c.in-Ok-Else.ensures), c.at_else.ensures.1)

pub returns-in-Ok-End : goal.returns-in-Ok-End
unfolding statement stated after
returns-in-Ok-End c = (c.at_end.ensures.0 ∙ ap (λ s. after s (opens c.args.n.now)) (rw c.in-Ok-End.field-0-is at c.in-Ok-End.ensures), c.at_end.ensures.1)

pub returns-in-Err : goal.returns-in-Err
unfolding stated nested after
returns-in-Err c = (ap (λ s. after s (opens c.args.n.now)) c.in-Err.ensures, λ e. cc)
