-- What the check promises of a file and its answer.
use Rattle.std.specs.Prelude.{ℕ, ◌≡◌, List, Result}
use Rattle.kernel.specs.Answers as Answers
use Rattle.check_file.specs.declared.NotAccepted.{NotAccepted}
use Rattle.check_file.specs.View.{answer}

abbrev pub Checks : (file : List ℕ) → Result Unit NotAccepted → Type 0
Checks file a = answer a ≡ Answers.check file
