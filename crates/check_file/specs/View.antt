-- The answer of the code, seen as what the definition gives.
use Rattle.std.specs.Prelude.{Result, Ok, Err}
use Rattle.numbers.specs.Result as R
use Rattle.kernel.specs.Check as Check
use Rattle.kernel.specs.Answers as Answers
use Rattle.kernel.specs.Named.{misfit, unread}
use Rattle.check_take.specs.declared.Refused as Walk
use Rattle.check_take.specs.View as Take
use Rattle.check_file.specs.declared.Refusal.{Refusal}
use Rattle.check_file.specs.declared.NotAccepted.{NotAccepted}
use Rattle.check_file.specs.declared.NotAccepted.TheVariants.{Unread, Refused}

-- a refusal by the same names
abbrev pub refusal : Refusal → Check.Refusal
refusal r = record { number = misfit r.why; rule = r.rule; array = r.array; stream = r.stream }

unfoldable pub answer : Result Unit NotAccepted → Answers.Checked
answer (Ok t) = Answers.accepted
answer (Err (Unread u)) = Answers.unread (unread u)
answer (Err (Refused r)) = Answers.refused (refusal r)

-- of a kernel that was read
unfoldable pub verdict : Result Unit Refusal → Answers.Checked
verdict (Ok t) = Answers.accepted
verdict (Err r) = Answers.refused (refusal r)

-- where the walk over it ends
unfoldable pub ended : Result Unit Walk.Refused → R.Result Check.Refusal Unit
ended (Ok t) = R.ok tt
ended (Err e) = R.stop (Take.refusal e)
