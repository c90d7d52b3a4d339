-- `batch::answered` meets its contract: the reply to each call is what the call promises.
use mathlib.Core.Path.{refl}
use native.Mathlib.Omega.{arith}
use Rattle.batch.specs.Reply.{Replies}
use Rattle.batch.proofs.Calls.{no_call}
use Rattle.batch.proofs.answered.Goals as goal

pub returns-in-1 : goal.returns-in-1
unfolding Replies
returns-in-1 c =
    rw c.in-1.is (c.sq_check.ensures, refl)

pub returns-in-2 : goal.returns-in-2
unfolding Replies
returns-in-2 c =
    rw c.in-2.is c.sq_array_run.ensures

pub returns-in-3 : goal.returns-in-3
unfolding Replies
returns-in-3 c =
    rw c.in-3.is c.sq_stream_run.ensures

pub returns-in-4 : goal.returns-in-4
unfolding Replies
returns-in-4 c =
    rw c.in-4.is c.sq_lay_out.ensures

pub returns-in-5 : goal.returns-in-5
unfolding Replies
returns-in-5 c =
    rw c.in-5.is c.sq_put_back.ensures

pub returns-in_default : goal.returns-in_default
returns-in_default c =
    no_call _ _ _ _ _ _ (λ e. omega arith) (λ e. omega arith) (λ e. omega arith) (λ e. omega arith) (λ e. omega arith) (refl, refl)
