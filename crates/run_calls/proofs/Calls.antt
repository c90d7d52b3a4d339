-- The two lengths of a call, then what it makes; and what a refusal or a run comes to.
use Prim.Native.Nat.{ℕ, ◌*◌}
use mathlib.Core.Path.{◌≡◌, refl, sym, ap, ◌∙◌}
use mathlib.Core.Bool.{Bool, true, false, cond, ◌&&◌}
use mathlib.Core.List.{List}
use lib.Dec.{eqb}
use lib.ListN.{length}
use borrow.Author.Tests.{eqb-true}
use Rattle.std.specs.Prelude.{Result, Ok, Err}
use Rattle.std.specs.Result.{IsErrAnd}
use Rattle.std.proofs.lemmas.Result.{err_from_is_err_and}
use Rattle.numbers.proofs.Tests.{and_left, and_right}
use Rattle.numbers.specs.Result as Answers
use Rattle.numbers.specs.Result.{ok, stop, ◌>>=◌, need}
use Rattle.numbers.specs.Words.{words, bytes}
use Rattle.kernel.specs.Numbers.{wrong_memory}
use Rattle.kernel.specs.declared.codes.Side.{Side}
use Rattle.kernel.specs.Named.{side}
use Rattle.kernel.specs.File.{Rec, Kernel, input, output, length_of, count_of}
use Rattle.kernel.specs.Reading.{Fault, fault, read_file}
use Rattle.kernel.specs.Memory as Memory
use Rattle.kernel.specs.Memory.{afterwards, on_areas}
use Rattle.parts.specs.declared.Measure.{Measure}
use Rattle.parts.specs.declared.Measure.TheVariants.{Cells, Items}
use Rattle.parts.specs.declared.Kernel as Code
use Rattle.parts.specs.declared.ArrayTable.{ArrayTable}
use Rattle.parts.specs.Parts.{kernel}
use Rattle.parts.specs.Arrays.{arrays_of, measure}
use Rattle.memory.specs.Sizes.{declared, total}
use Rattle.run_calls.specs.declared.Area.{Area}
use Rattle.run_calls.specs.declared.Ran.{Ran}
use Rattle.run_calls.specs.declared.NotRun.{NotRun}
use Rattle.run_calls.specs.declared.NotRun.TheVariants.{WrongMemory}
use Rattle.run_calls.specs.View.{kernel_of, answer_of, refusal, answer, finished, done, right_length, on_kernel, program, program_ran, run_of}
use Rattle.run_calls.specs.Promises.{Runs, Moves}

-- ---- lengths

-- the table of a kernel's arrays is its arrays
pub declared_is : (t : ArrayTable) (k : Code.Kernel) → (t.file ≡ k.file) × (t.count ≡ k.counts.a) → declared t ≡ (kernel_of k).arrays
unfolding kernel
declared_is t k e = λ i. arrays_of (e.0 i).now (e.1 i)

abbrev pub chosen : (t : Bool) → Result Unit NotRun
chosen t = cond t (Ok tt) (Err WrongMemory)

chose_ok : (t : Bool) → chosen t ≡ Ok tt → t ≡ true
chose_ok true e = refl
chose_ok false e = cc

chose_err : (t : Bool) (u : NotRun) → chosen t ≡ Err u → (t ≡ false) × (u ≡ WrongMemory)
chose_err true u e = cc
chose_err false u e = (refl, cc)

-- one after the other
module _ (arrays : List Rec) (t : ArrayTable) (d : declared t ≡ arrays) (a b : Area) where
  found : (x : Area) {r s : Bool} → r ≡ right_length (declared t) x → r ≡ s → right_length arrays x ≡ s
  found x e f = ap (λ rs. right_length rs x) (sym d) ∙ sym e ∙ f

  pub both_hold : {r s : Bool} → r ≡ right_length (declared t) a → r ≡ true → s ≡ right_length (declared t) b → s ≡ true
      → Ok tt ≡ chosen (right_length arrays a && right_length arrays b)
  both_hold e f g h = sym (λ i. chosen (found a e f i && found b g h i))

  pub first_fails : {r : Bool} → r ≡ right_length (declared t) a → r ≡ false → Err WrongMemory ≡ chosen (right_length arrays a && right_length arrays b)
  first_fails e f = sym (λ i. chosen (found a e f i && right_length arrays b))

  pub second_fails : {r s : Bool} → r ≡ right_length (declared t) a → r ≡ true → s ≡ right_length (declared t) b → s ≡ false
      → Err WrongMemory ≡ chosen (right_length arrays a && right_length arrays b)
  second_fails e f g h = sym (λ i. chosen (found a e f i && found b g h i))

-- a call whose areas the code has made and tested
module _ {A : Type 0} (makes : Kernel → List ℕ → A) (K : Kernel) (first second : List ℕ) {s t : Side} {m n : Measure} {x y : Area}
    (e : x ≡ record { bytes = length first; measure = m; side = s }) (f : y ≡ record { bytes = length second; measure = n; side = t })
    {r : Result Unit NotRun} (g : r ≡ chosen (right_length K.arrays x && right_length K.arrays y)) where
  abbrev first_long : Bool
  first_long = eqb (length first) (4 * total (side s) m K.arrays)

  abbrev second_long : Bool
  second_long = eqb (length second) (4 * total (side t) n K.arrays)

  tested : r ≡ chosen (first_long && second_long)
  tested = g ∙ (λ i. chosen (right_length K.arrays (e i) && right_length K.arrays (f i)))

  abbrev pub made : Answers.Result Fault A
  made = on_kernel (Memory.total (side s) (measure m)) (Memory.total (side t) (measure n)) makes K first second

  made_as : (b : Bool) → (first_long && second_long) ≡ b → made ≡ (need (fault wrong_memory 0 0) b >>= λ _. ok (makes K (words first)))
  unfolding on_kernel Memory.total
  made_as b h = ap (λ b. need (fault wrong_memory 0 0) b >>= λ _. ok (makes K (words first))) h

  pub wrong : (u : NotRun) → r ≡ Err u → made ≡ stop (refusal u)
  unfolding need ◌>>=◌ refusal
  wrong u z = let h = chose_err (first_long && second_long) u (sym tested ∙ z) in made_as false h.0 ∙ ap (λ e. stop (refusal e)) (sym h.1)

  pub right : r ≡ Ok tt → made ≡ ok (makes K (words first))
  unfolding need ◌>>=◌
  right z = made_as true (chose_ok (first_long && second_long) (sym tested ∙ z))

  pub long : r ≡ Ok tt → (length first ≡ 4 * total (side s) m K.arrays) × (length second ≡ 4 * total (side t) n K.arrays)
  long z =
      let so = chose_ok (first_long && second_long) (sym tested ∙ z) in
      (eqb-true _ _ (and_left first_long second_long so), eqb-true _ _ (and_right first_long second_long so))

-- ---- promises

pub refused_run : (r : Answers.Result Fault Memory.Ran) (before : List ℕ) (x : Result Ran NotRun) (u : NotRun) → IsErrAnd x (λ e. e ≡ u) → r ≡ stop (refusal u) → Runs r before x before
unfolding answer answer_of afterwards
refused_run r before x u e h = let p = err_from_is_err_and x e in rw (p.1, p.2) (sym (ap answer_of h), sym (ap (afterwards (λ m. m.memory) before) h))

pub ran_run : (r : Answers.Result Fault Memory.Ran) (before after : List ℕ) (a : Ran) (m : Memory.Ran) → r ≡ ok m → answer (Ok a) ≡ answer_of (ok m) → after ≡ bytes m.memory → Runs r before (Ok a) after
unfolding afterwards
ran_run r before after a m e f g = (f ∙ sym (ap answer_of e), g ∙ sym (ap (afterwards (λ m. m.memory) before) e))

pub refused_move : (r : Answers.Result Fault (List ℕ)) (before : List ℕ) (x : Result Unit NotRun) (u : NotRun) → IsErrAnd x (λ e. e ≡ u) → r ≡ stop (refusal u) → Moves r before x before
unfolding done finished afterwards
refused_move r before x u e h = let p = err_from_is_err_and x e in rw (p.1, p.2) (sym (ap finished h), sym (ap (afterwards (λ m. m) before) h))

pub done_move : (r : Answers.Result Fault (List ℕ)) (before after m : List ℕ) → r ≡ ok m → after ≡ bytes m → Moves r before (Ok tt) after
unfolding done finished afterwards
done_move r before after m e g = (sym (ap finished e), g ∙ sym (ap (afterwards (λ m. m) before) e))

-- ---- the whole call

module _ {A : Type 0} (from to : Kernel → ℕ) (makes : Kernel → List ℕ → A) (file first second : List ℕ) where
  pub call_reads : (K : Kernel) → read_file file ≡ ok K → on_areas from to makes file first second ≡ on_kernel from to makes K first second
  unfolding on_areas on_kernel ◌>>=◌
  call_reads K e = ap (λ r. r >>= λ K. on_kernel from to makes K first second) e

  pub call_stops : (f : Fault) → read_file file ≡ stop f → on_areas from to makes file first second ≡ stop f
  unfolding on_areas on_kernel ◌>>=◌
  call_stops f e = ap (λ r. r >>= λ K. on_kernel from to makes K first second) e

-- ---- the calls on a file that reads

module _ (file : List ℕ) (K : Kernel) (e : read_file file ≡ ok K) (first second : List ℕ) where
  pub array_call : run_of Cells K first second ≡ Memory.array_run file first second
  unfolding on_kernel measure program program_ran Memory.array_run Memory.array_ran
  array_call = sym (call_reads (Memory.total input length_of) (Memory.total output length_of) Memory.array_ran file first second K e)

  pub stream_call : run_of Items K first second ≡ Memory.stream_run file first second
  unfolding on_kernel measure program program_ran Memory.stream_run Memory.stream_ran
  stream_call = sym (call_reads (Memory.total input count_of) (Memory.total output count_of) Memory.stream_ran file first second K e)

  pub lay_out_call : Memory.lay_out file first second ≡ on_kernel (Memory.total input (measure Cells)) (Memory.total input (measure Items)) Memory.laid_out K first second
  unfolding Memory.lay_out measure
  lay_out_call = call_reads (Memory.total input length_of) (Memory.total input count_of) Memory.laid_out file first second K e

  pub put_back_call : Memory.putting_back file first second ≡ on_kernel (Memory.total output (measure Items)) (Memory.total output (measure Cells)) Memory.put_back K first second
  unfolding Memory.putting_back measure
  put_back_call = call_reads (Memory.total output count_of) (Memory.total output length_of) Memory.put_back file first second K e

-- ---- the calls on one that does not

module _ (file : List ℕ) (f : Fault) (e : read_file file ≡ stop f) (first second : List ℕ) where
  pub array_stops : Memory.array_run file first second ≡ stop f
  unfolding Memory.array_run
  array_stops = call_stops (Memory.total input length_of) (Memory.total output length_of) Memory.array_ran file first second f e

  pub stream_stops : Memory.stream_run file first second ≡ stop f
  unfolding Memory.stream_run
  stream_stops = call_stops (Memory.total input count_of) (Memory.total output count_of) Memory.stream_ran file first second f e

  pub lay_out_stops : Memory.lay_out file first second ≡ stop f
  unfolding Memory.lay_out
  lay_out_stops = call_stops (Memory.total input length_of) (Memory.total input count_of) Memory.laid_out file first second f e

  pub put_back_stops : Memory.putting_back file first second ≡ stop f
  unfolding Memory.putting_back
  put_back_stops = call_stops (Memory.total output count_of) (Memory.total output length_of) Memory.put_back file first second f e
