-- The contract of `read` leaves one answer: what an answer is seen as tells it from every other.
use Prim.Native.Nat.{ℕ}
use mathlib.Core.Path.{◌≡◌, sym, ap, ◌∙◌}
use mathlib.Core.HLevel.{is_prop→PathP}
use mathlib.Core.List.{List}
use Rattle.std.proofs.Common.{Bor}
use Rattle.std.specs.Prelude.{Result, Ok, Err, IfOk}
use Rattle.kernel.specs.File as File
use Rattle.kernel.specs.Reading.{read_file}
use Rattle.kernel.specs.declared.refusals.Unread.{Unread}
use Rattle.parts.specs.declared.Counts.{Counts}
use Rattle.parts.specs.declared.Kernel.{Kernel}
use Rattle.parts.specs.contracts.Counts.{the_row}
use Rattle.parts.specs.contracts.Kernel.{reads-found}
use Rattle.parts.specs.Parts.{ReadAs}
use Rattle.read_counts.proofs.One.{one_unread, one_counts, never_both, found_one, fault_one}
use Rattle.read_file.specs.View.{answer}

same_kernel : (k l : Kernel) → k.file ≡ l.file → k.counts ≡ l.counts → k ≡ l
same_kernel k l e f = λ i. record {
  file = e i;
  counts = f i;
  reads = is_prop→PathP (λ j. ReadAs (e j).now (f j)) (λ j. reads-found the_row.coded (e j) (f j)) k.reads l.reads i;
}

pub one_answer : (file : Bor (List ℕ)) (r r' : Result Kernel Unread) → IfOk r (λ k. k.file ≡ file) → IfOk r' (λ k. k.file ≡ file) → answer file.now r ≡ answer file.now r' → r ≡ r'
unfolding answer
one_answer file (Ok k) (Ok l) h h' e = ap Ok (same_kernel k l (h ∙ sym h') (one_counts file.now k.counts l.counts (found_one e)))
one_answer file (Ok k) (Err v) h h' e = absurd (never_both e)
one_answer file (Err u) (Ok l) h h' e = absurd (never_both (sym e))
one_answer file (Err u) (Err v) h h' e = ap Err (one_unread u v (fault_one {A = File.Kernel} e))

pub one_reading : (file : Bor (List ℕ)) (r r' : Result Kernel Unread) → IfOk r (λ k. k.file ≡ file) → IfOk r' (λ k. k.file ≡ file)
    → answer file.now r ≡ read_file file.now → answer file.now r' ≡ read_file file.now → r ≡ r'
one_reading file r r' h h' e e' = one_answer file r r' h h' (e ∙ sym e')

-- whatever file an answer carries, its counts or its refusal are told by what it is seen as
abbrev pub counts_of : Result Kernel Unread → Result Counts Unread
counts_of (Ok k) = Ok k.counts
counts_of (Err u) = Err u

pub one_finding : (file : List ℕ) (r r' : Result Kernel Unread) → answer file r ≡ answer file r' → counts_of r ≡ counts_of r'
unfolding answer
one_finding file (Ok k) (Ok l) e = ap Ok (one_counts file k.counts l.counts (found_one e))
one_finding file (Ok k) (Err v) e = absurd (never_both e)
one_finding file (Err u) (Ok l) e = absurd (never_both (sym e))
one_finding file (Err u) (Err v) e = ap Err (one_unread u v (fault_one {A = File.Kernel} e))

pub one_read : (file : List ℕ) (r r' : Result Kernel Unread) → answer file r ≡ read_file file → answer file r' ≡ read_file file → counts_of r ≡ counts_of r'
one_read file r r' e e' = one_finding file r r' (e ∙ sym e')
