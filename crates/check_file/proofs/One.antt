-- The check's promise leaves one answer: what an answer is seen as tells it from every other.
use mathlib.Core.Path.{◌≡◌, refl, sym, ap, ◌∙◌}
use mathlib.Core.List.{List, [], ◌∷◌}
use Prim.Native.Nat.{ℕ, ◌-◌}
use lib.ListN.{get_or}
use Rattle.std.specs.Prelude.{Result, Ok, Err, Option, Some, None}
use Rattle.kernel.specs.Reading.{fault}
use Rattle.kernel.specs.Answers as Answers
use Rattle.kernel.specs.Named.{misread, misfit, section, section_of, unread}
use Rattle.kernel.specs.declared.refusals.Misread.{Misread}
use Rattle.kernel.specs.declared.refusals.Misread.TheVariants.{BadLength, CountOutside, FieldOutside, BlocksUnmatched, TooDeep}
use Rattle.kernel.specs.declared.refusals.Misfit.{Misfit}
use Rattle.kernel.specs.declared.refusals.Misfit.TheVariants.{DoesNotFit, PastCount, NotNextIndex, NotHeld, UntrueAtEntry, NotKept, BranchesDiffer, StatementsLeft, BlockOpen, NotCounted}
use Rattle.kernel.specs.declared.refusals.Section.{Section}
use Rattle.kernel.specs.declared.refusals.Section.TheVariants.{Registers, Buffers, Arrays, ArrayProgram, StreamProgram, Derivation}
use Rattle.check_file.specs.declared.NotAccepted.{NotAccepted}
use Rattle.check_file.specs.declared.NotAccepted.TheVariants.{Unread, Refused}
use Rattle.check_file.specs.View.{answer}
use Rattle.check_file.specs.Promises.{Checks}

-- the name of a number
misread_of : ℕ → Misread
misread_of n = get_or (BadLength ∷ BadLength ∷ CountOutside ∷ FieldOutside ∷ BlocksUnmatched ∷ TooDeep ∷ []) n BadLength

misfit_of : ℕ → Misfit
misfit_of n =
    get_or (DoesNotFit ∷ PastCount ∷ NotNextIndex ∷ NotHeld ∷ UntrueAtEntry ∷ NotKept ∷ BranchesDiffer ∷ StatementsLeft ∷ BlockOpen ∷ NotCounted ∷ []) (n - 10) DoesNotFit

section_named : ℕ → Option Section
section_named n = get_or (None ∷ Some Registers ∷ Some Buffers ∷ Some Arrays ∷ Some ArrayProgram ∷ Some StreamProgram ∷ Some Derivation ∷ []) n None

misread_back : (m : Misread) → misread_of (misread m) ≡ m
unfolding misread misread_of
misread_back BadLength = refl
misread_back CountOutside = refl
misread_back FieldOutside = refl
misread_back BlocksUnmatched = refl
misread_back TooDeep = refl

misfit_back : (m : Misfit) → misfit_of (misfit m) ≡ m
unfolding misfit misfit_of
misfit_back DoesNotFit = refl
misfit_back PastCount = refl
misfit_back NotNextIndex = refl
misfit_back NotHeld = refl
misfit_back UntrueAtEntry = refl
misfit_back NotKept = refl
misfit_back BranchesDiffer = refl
misfit_back StatementsLeft = refl
misfit_back BlockOpen = refl
misfit_back NotCounted = refl

section_back : (s : Option Section) → section_named (section_of s) ≡ s
unfolding section section_of section_named
section_back None = refl
section_back (Some Registers) = refl
section_back (Some Buffers) = refl
section_back (Some Arrays) = refl
section_back (Some ArrayProgram) = refl
section_back (Some StreamProgram) = refl
section_back (Some Derivation) = refl

pub answer_of : Answers.Checked → Result Unit NotAccepted
answer_of Answers.accepted = Ok tt
answer_of (Answers.unread (fault number s place)) = Err (Unread (record { why = misread_of number; section = section_named s; place = place }))
answer_of (Answers.refused r) = Err (Refused (record { why = misfit_of r.number; rule = r.rule; array = r.array; stream = r.stream }))

pub answer_back : (a : Result Unit NotAccepted) → answer_of (answer a) ≡ a
unfolding answer answer_of unread
answer_back (Ok t) = refl
answer_back (Err (Unread u)) = λ i. Err (Unread (record { why = misread_back u.why i; section = section_back u.section i; place = u.place }))
answer_back (Err (Refused r)) = λ i. Err (Refused (record { why = misfit_back r.why i; rule = r.rule; array = r.array; stream = r.stream }))

pub one_check : (file : List ℕ) (a b : Result Unit NotAccepted) → Checks file a → Checks file b → a ≡ b
one_check file a b p q = sym (answer_back a) ∙ ap answer_of (p ∙ sym q) ∙ answer_back b

-- an answer that is accepted says that the file is
pub accepts : (file : List ℕ) (a : Result Unit NotAccepted) → Checks file a → a ≡ Ok tt → Answers.check file ≡ Answers.accepted
unfolding answer
accepts file a p e = sym p ∙ ap answer e
