-- The contract of `sections` leaves one answer: what an answer is seen as tells it from every other.
use Prim.Native.Nat.{ℕ}
use mathlib.Core.Path.{◌≡◌, refl, sym, ap, subst, ◌∙◌}
use mathlib.Core.HLevel.{is_prop→PathP}
use mathlib.Core.List.{List, [], ◌∷◌}
use lib.ListN.{length, get_or}
use Rattle.std.proofs.Common.{Bor}
use Rattle.std.specs.Prelude as Std
use Rattle.std.specs.Prelude.{Ok, Err, Option, Some, None, IfOk}
use Rattle.numbers.specs.Result.{Result, ok, stop}
use Rattle.kernel.specs.File as File
use Rattle.kernel.specs.Reading.{Fault, fault}
use Rattle.kernel.specs.Named.{misread, section, section_of, unread}
use Rattle.kernel.specs.declared.refusals.Misread.{Misread}
use Rattle.kernel.specs.declared.refusals.Misread.TheVariants.{BadLength, CountOutside, FieldOutside, BlocksUnmatched, TooDeep}
use Rattle.kernel.specs.declared.refusals.Section.{Section}
use Rattle.kernel.specs.declared.refusals.Section.TheVariants.{Registers, Buffers, Arrays, ArrayProgram, StreamProgram, Derivation}
use Rattle.kernel.specs.declared.refusals.Unread.{Unread}
use Rattle.parts.specs.declared.Counts.{Counts}
use Rattle.parts.specs.declared.Sections.{Sections}
use Rattle.parts.specs.contracts.Counts.{the_row}
use Rattle.parts.specs.contracts.Sections.{fills-found}
use Rattle.parts.specs.Parts.{kernel, Fills}
use Rattle.parts.proofs.Parts.{arrays_count, array_count, stream_count, rule_count}
use Rattle.read_counts.specs.View.{answer}

-- ---- back from a fault

why_of : ℕ → Misread
why_of n = get_or (BadLength ∷ BadLength ∷ CountOutside ∷ FieldOutside ∷ BlocksUnmatched ∷ TooDeep ∷ []) n BadLength

which_of : ℕ → Option Section
which_of n = get_or (None ∷ Some Registers ∷ Some Buffers ∷ Some Arrays ∷ Some ArrayProgram ∷ Some StreamProgram ∷ Some Derivation ∷ []) n None

same_why : (m : Misread) → why_of (misread m) ≡ m
unfolding why_of misread
same_why BadLength = refl
same_why CountOutside = refl
same_why FieldOutside = refl
same_why BlocksUnmatched = refl
same_why TooDeep = refl

same_which : (s : Option Section) → which_of (section_of s) ≡ s
unfolding which_of section_of section
same_which None = refl
same_which (Some Registers) = refl
same_which (Some Buffers) = refl
same_which (Some Arrays) = refl
same_which (Some ArrayProgram) = refl
same_which (Some StreamProgram) = refl
same_which (Some Derivation) = refl

from_fault : Fault → Unread
from_fault (fault number section place) = record { why = why_of number; section = which_of section; place = place }

same_fault : (u : Unread) → from_fault (unread u) ≡ u
unfolding from_fault unread
same_fault u = λ i. record { why = same_why u.why i; section = same_which u.section i; place = u.place }

pub one_unread : (u v : Unread) → unread u ≡ unread v → u ≡ v
one_unread u v e = sym (same_fault u) ∙ ap from_fault e ∙ same_fault v

-- ---- back from a kernel

counts : File.Kernel → Counts
counts K = record {
  r = K.registers;
  b = K.buffers;
  a = length K.arrays;
  s = length K.array_program;
  t = length K.stream_program;
  d = length K.derivation;
}

kernel_counts : (file : List ℕ) (c : Counts) → counts (kernel file c) ≡ c
unfolding counts kernel
kernel_counts file c = λ i. record {
  r = c.r;
  b = c.b;
  a = arrays_count file c i;
  s = array_count file c i;
  t = stream_count file c i;
  d = rule_count file c i;
}

pub one_counts : (file : List ℕ) (c d : Counts) → kernel file c ≡ kernel file d → c ≡ d
one_counts file c d e = sym (kernel_counts file c) ∙ ap counts e ∙ kernel_counts file d

-- ---- what is seen as a kernel is none as a fault

abbrev Found : {A : Type 0} → Result Fault A → Type 0
Found (ok a) = Unit
Found (stop f) = ⊥

pub never_both : {A : Type 0} {a : A} {f : Fault} → ok a ≡ stop f → ⊥
never_both e = subst Found e tt

abbrev found : {A : Type 0} → A → Result Fault A → A
found other (ok a) = a
found other (stop f) = other

pub found_one : {A : Type 0} {a b : A} → ◌≡◌ {A = Result Fault A} (ok a) (ok b) → a ≡ b
found_one {A} {a} e = ap (found a) e

abbrev fault_of : {A : Type 0} → Fault → Result Fault A → Fault
fault_of other (ok a) = other
fault_of other (stop f) = f

pub fault_one : {A : Type 0} {f g : Fault} → ◌≡◌ {A = Result Fault A} (stop f) (stop g) → f ≡ g
fault_one {A} {f} e = ap (fault_of f) e

-- ---- `sections`

same_sections : (s t : Sections) → s.file ≡ t.file → s.counts ≡ t.counts → s ≡ t
same_sections s t e f = λ i. record {
  file = e i;
  counts = f i;
  fills = is_prop→PathP (λ j. Fills (e j).now (f j)) (λ j. fills-found the_row.coded (e j) (f j)) s.fills t.fills i;
}

pub one_answer : (file : Bor (List ℕ)) (r r' : Std.Result Sections Unread) → IfOk r (λ s. s.file ≡ file) → IfOk r' (λ s. s.file ≡ file) → answer file.now r ≡ answer file.now r' → r ≡ r'
unfolding answer
one_answer file (Ok s) (Ok t) h k e = ap Ok (same_sections s t (h ∙ sym k) (one_counts file.now s.counts t.counts (found_one e)))
one_answer file (Ok s) (Err v) h k e = absurd (never_both e)
one_answer file (Err u) (Ok t) h k e = absurd (never_both (sym e))
one_answer file (Err u) (Err v) h k e = ap Err (one_unread u v (fault_one {A = File.Kernel} e))

-- whatever file an answer carries, its counts or its refusal are told by what it is seen as
abbrev pub counts_of : Std.Result Sections Unread → Std.Result Counts Unread
counts_of (Ok s) = Ok s.counts
counts_of (Err u) = Err u

pub one_finding : (file : List ℕ) (r r' : Std.Result Sections Unread) → answer file r ≡ answer file r' → counts_of r ≡ counts_of r'
unfolding answer
one_finding file (Ok s) (Ok t) e = ap Ok (one_counts file s.counts t.counts (found_one e))
one_finding file (Ok s) (Err v) e = absurd (never_both e)
one_finding file (Err u) (Ok t) e = absurd (never_both (sym e))
one_finding file (Err u) (Err v) e = ap Err (one_unread u v (fault_one {A = File.Kernel} e))
