-- The parts of the code's answers are those of the results that they tell.
use Prim.Native.Nat.{ℕ}
use mathlib.Core.Path.{◌≡◌, refl, sym, ap, subst, ◌∙◌}
use mathlib.Core.List.{List, [], ◌∷◌, ◌++◌}
use Rattle.std.specs.Prelude as Std
use Rattle.numbers.specs.Result.{Result, ok, stop}
use Rattle.kernel.specs.Reading.{Fault}
use Rattle.kernel.specs.Memory as Memory
use Rattle.kernel.specs.Memory.{Ending, ended, sticks}
use Rattle.kernel.specs.Answers.{fault_numbers, ending_numbers, check_numbers}
use Rattle.check_file.specs.declared.NotAccepted.{NotAccepted}
use Rattle.check_file.specs.View as Checking
use Rattle.run_calls.specs.declared.Ran.{Ran}
use Rattle.run_calls.specs.declared.NotRun.{NotRun}
use Rattle.run_calls.specs.View.{Answer, answer_of, answer, finished, done}
use Rattle.planner.specs.Words.{Tells, array_run_numbers, stream_run_numbers, move_numbers}
use Rattle.planner.proofs.Parts.{tells_before}

-- the check: the parts of an answer x that is y
pub check_tells : (word : ℕ) (x y : Std.Result Unit NotAccepted) → x ≡ y → Tells word (check_numbers (Checking.answer y)) → Tells word (check_numbers (Checking.answer x))
check_tells word x y e t = subst (λ z. Tells word (check_numbers (Checking.answer z))) (sym e) t

-- ---- runs: the same, of what a run answers without its memory

unfoldable pub array_answer_numbers : Result Fault Answer → List ℕ
array_answer_numbers (ok t) = ending_numbers t.ending
array_answer_numbers (stop f) = fault_numbers f

unfoldable pub stream_answer_numbers : Result Fault Answer → List ℕ
stream_answer_numbers (ok t) = ending_numbers t.ending ++ t.read ∷ t.written ∷ []
stream_answer_numbers (stop f) = fault_numbers f

array_same : (m : Result Fault Memory.Ran) → array_answer_numbers (answer_of m) ≡ array_run_numbers m
unfolding array_answer_numbers answer_of array_run_numbers
array_same (ok r) = refl
array_same (stop f) = refl

stream_same : (m : Result Fault Memory.Ran) → stream_answer_numbers (answer_of m) ≡ stream_run_numbers m
unfolding stream_answer_numbers answer_of stream_run_numbers
stream_same (ok r) = refl
stream_same (stop f) = refl

module _ (word : ℕ) (x y : Std.Result Ran NotRun) (e : x ≡ y) (m : Result Fault Memory.Ran) (a : answer x ≡ answer_of m) where
  pub array_tells : Tells word (array_answer_numbers (answer y)) → Tells word (array_run_numbers m)
  array_tells t = subst (Tells word) (ap (λ z. array_answer_numbers (answer z)) (sym e) ∙ ap array_answer_numbers a ∙ array_same m) t

  pub stream_tells : Tells word (stream_answer_numbers (answer y)) → Tells word (stream_run_numbers m)
  stream_tells t = subst (Tells word) (ap (λ z. stream_answer_numbers (answer z)) (sym e) ∙ ap stream_answer_numbers a ∙ stream_same m) t

-- ---- laying out and putting back

unfoldable pub move_answer_numbers : Result Fault (Unit {0}) → List ℕ
move_answer_numbers (ok t) = 0 ∷ []
move_answer_numbers (stop f) = fault_numbers f

move_same : (m : Result Fault (List ℕ)) → move_answer_numbers (finished m) ≡ move_numbers m
unfolding move_answer_numbers finished move_numbers
move_same (ok r) = refl
move_same (stop f) = refl

pub move_tells : (word : ℕ) (x y : Std.Result Unit NotRun) → x ≡ y → (m : Result Fault (List ℕ)) → done x ≡ finished m → Tells word (move_answer_numbers (done y)) → Tells word (move_numbers m)
move_tells word x y e m a t = subst (Tells word) (ap (λ z. move_answer_numbers (done z)) (sym e) ∙ ap move_answer_numbers a ∙ move_same m) t

-- ---- counts of 0 need not be given

pub counts_left_out : (word : ℕ) (e : Ending) {read written : ℕ} → Tells word (ending_numbers e ++ read ∷ written ∷ []) → read ≡ 0 → written ≡ 0 → Tells word (ending_numbers e)
unfolding ending_numbers
counts_left_out word e {read} {written} t r w = by e (subst (λ n. Tells word (ending_numbers e ++ n ∷ 0 ∷ [])) r (subst (λ n. Tells word (ending_numbers e ++ read ∷ n ∷ [])) w t))
  where
    by : (e : Ending) → Tells word (ending_numbers e ++ 0 ∷ 0 ∷ []) → Tells word (ending_numbers e)
    by ended t = tells_before word (0 ∷ 0 ∷ []) (tells_before word (0 ∷ 0 ∷ 0 ∷ []) t)
    by (sticks reason n) t = tells_before word (reason ∷ n ∷ []) (tells_before word (reason ∷ n ∷ 0 ∷ []) t)
