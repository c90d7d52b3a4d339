-- Each call's promise leaves one answer and one content of the written memory: what an answer is seen as tells it from every other.
use Prim.Native.Nat.{ℕ, ◌-◌}
use mathlib.Core.Path.{◌≡◌, refl, sym, ap, ◌∙◌}
use mathlib.Core.List.{List, [], ◌∷◌}
use native.Mathlib.Omega.{arith}
use lib.ListN.{get_or}
use Rattle.std.specs.Prelude.{Result, Ok, Err}
use Rattle.numbers.specs.Result as Answers
use Rattle.kernel.specs.declared.refusals.Misread.{Misread}
use Rattle.kernel.specs.declared.refusals.Misread.TheVariants.{BadLength, CountOutside, FieldOutside, BlocksUnmatched, TooDeep}
use Rattle.kernel.specs.declared.refusals.Reason.{Reason}
use Rattle.kernel.specs.declared.refusals.Reason.TheVariants.{Unset, ZeroDivisor, IndexOutside, StreamEmpty, StreamFull}
use Rattle.kernel.specs.Numbers.{wrong_memory}
use Rattle.kernel.specs.Named.{misread, reason, unread}
use Rattle.kernel.specs.Reading.{Fault, fault}
use Rattle.kernel.specs.Memory as Memory
use Rattle.kernel.specs.Memory.{Ending, ended, sticks}
use Rattle.run_blocks.specs.declared.Stuck.{Stuck}
use Rattle.read_counts.proofs.One.{one_unread, never_both, found_one, fault_one}
use Rattle.run_calls.specs.declared.Ran.{Ran}
use Rattle.run_calls.specs.declared.NotRun.{NotRun}
use Rattle.run_calls.specs.declared.NotRun.TheVariants.{Unread, WrongMemory}
use Rattle.run_calls.specs.View.{Answer, ending, refusal, answer, done}
use Rattle.run_calls.specs.Promises.{Runs, Moves, ArrayRun, StreamRun, LayOut, PutBack}

-- ---- from what an ending is seen as back to it

reason_of : ℕ → Reason
reason_of n = get_or (Unset ∷ ZeroDivisor ∷ IndexOutside ∷ StreamEmpty ∷ StreamFull ∷ []) (n - 31) Unset

reason_back : (r : Reason) → reason_of (reason r) ≡ r
unfolding reason_of reason
reason_back Unset = refl
reason_back ZeroDivisor = refl
reason_back IndexOutside = refl
reason_back StreamEmpty = refl
reason_back StreamFull = refl

ending_of : Ending → Result Unit Stuck
ending_of ended = Ok tt
ending_of (sticks reason n) = Err (record { reason = reason_of reason; at = n })

ending_back : (e : Result Unit Stuck) → ending_of (ending e) ≡ e
unfolding ending_of ending
ending_back (Ok t) = refl
ending_back (Err s) = ap (λ r. Err (record { reason = r; at = s.at })) (reason_back s.reason)

one_ending : (a b : Result Unit Stuck) → ending a ≡ ending b → a ≡ b
one_ending a b e = sym (ending_back a) ∙ ap ending_of e ∙ ending_back b

-- ---- what two answers are seen as

number_of : Fault → ℕ
number_of (fault number section place) = number

-- 21 is no number of a file that does not read
not_misread : (m : Misread) → misread m ≡ wrong_memory → ⊥
unfolding misread
not_misread BadLength e = omega arith
not_misread CountOutside e = omega arith
not_misread FieldOutside e = omega arith
not_misread BlocksUnmatched e = omega arith
not_misread TooDeep e = omega arith

one_refusal : (a b : NotRun) → refusal a ≡ refusal b → a ≡ b
unfolding refusal unread number_of
one_refusal (Unread u) (Unread v) e = ap Unread (one_unread u v e)
one_refusal (Unread u) WrongMemory e = absurd (not_misread u.why (ap number_of e))
one_refusal WrongMemory (Unread v) e = absurd (not_misread v.why (sym (ap number_of e)))
one_refusal WrongMemory WrongMemory e = refl

one_answer : (a b : Result Ran NotRun) → answer a ≡ answer b → a ≡ b
unfolding answer
one_answer (Ok r) (Ok s) e =
    let f = found_one {A = Answer} e in
    λ i. Ok (record { ending = one_ending r.ending s.ending (ap (λ (t : Answer). t.ending) f) i; read = ap (λ (t : Answer). t.read) f i; written = ap (λ (t : Answer). t.written) f i })
one_answer (Ok r) (Err d) e = absurd (never_both e)
one_answer (Err c) (Ok s) e = absurd (never_both (sym e))
one_answer (Err c) (Err d) e = ap Err (one_refusal c d (fault_one {A = Answer} e))

one_done : (a b : Result Unit NotRun) → done a ≡ done b → a ≡ b
unfolding done
one_done (Ok t) (Ok u) e = refl
one_done (Ok t) (Err d) e = absurd (never_both e)
one_done (Err c) (Ok u) e = absurd (never_both (sym e))
one_done (Err c) (Err d) e = ap Err (one_refusal c d (fault_one {A = Unit} e))

-- ---- one answer

pub one_run : (r : Answers.Result Fault Memory.Ran) (before : List ℕ) (a b : Result Ran NotRun) (x y : List ℕ) → Runs r before a x → Runs r before b y → (a ≡ b) × (x ≡ y)
one_run r before a b x y p q = (one_answer a b (p.0 ∙ sym q.0), p.1 ∙ sym q.1)

pub one_move : (r : Answers.Result Fault (List ℕ)) (before : List ℕ) (a b : Result Unit NotRun) (x y : List ℕ) → Moves r before a x → Moves r before b y → (a ≡ b) × (x ≡ y)
one_move r before a b x y p q = (one_done a b (p.0 ∙ sym q.0), p.1 ∙ sym q.1)

module _ (file given before : List ℕ) (x y : List ℕ) where
  pub one_array_run : (a b : Result Ran NotRun) → ArrayRun file given before a x → ArrayRun file given before b y → (a ≡ b) × (x ≡ y)
  one_array_run a b p q = one_run (Memory.array_run file given before) before a b x y p q

  pub one_stream_run : (a b : Result Ran NotRun) → StreamRun file given before a x → StreamRun file given before b y → (a ≡ b) × (x ≡ y)
  one_stream_run a b p q = one_run (Memory.stream_run file given before) before a b x y p q

  pub one_laying_out : (a b : Result Unit NotRun) → LayOut file given before a x → LayOut file given before b y → (a ≡ b) × (x ≡ y)
  one_laying_out a b p q = one_move (Memory.lay_out file given before) before a b x y p q

  pub one_putting_back : (a b : Result Unit NotRun) → PutBack file given before a x → PutBack file given before b y → (a ≡ b) × (x ≡ y)
  one_putting_back a b p q = one_move (Memory.putting_back file given before) before a b x y p q
