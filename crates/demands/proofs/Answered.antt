-- What a call answers and leaves where the file reads and both lengths are right.
use Prim.Native.Nat.{ℕ, ◌*◌}
use mathlib.Core.Path.{◌≡◌, refl, ap, ◌∙◌}
use mathlib.Core.Bool.{◌&&◌, true}
use mathlib.Core.List.{List}
use lib.Dec.{eqb}
use lib.ListN.{length}
use borrow.Author.Tests.{eq-eqb}
use Rattle.std.specs.Prelude as Std
use Rattle.std.specs.Prelude.{Ok, Err}
use Rattle.numbers.specs.Result.{Result, ok, ◌>>=◌, need}
use Rattle.numbers.specs.Words.{words, bytes}
use Rattle.numbers.proofs.Tests.{and_true}
use Rattle.kernel.specs.File.{Kernel}
use Rattle.kernel.specs.Reading.{Fault, fault, read_file}
use Rattle.kernel.specs.Memory as Memory
use Rattle.kernel.specs.Memory.{on_areas, afterwards}
use Rattle.run_calls.specs.declared.NotRun.{NotRun}
use Rattle.run_calls.specs.View.{Answer, answer_of, finished, done, on_kernel}
use Rattle.run_calls.proofs.Calls.{call_reads}

-- both lengths are right
right_lengths : {A : Type 0} (from to : Kernel → ℕ) (makes : Kernel → List ℕ → A) (K : Kernel) (first second : List ℕ) → (eqb (length first) (4 * from K) && eqb (length second) (4 * to K)) ≡ true
    → on_kernel from to makes K first second ≡ ok (makes K (words first))
unfolding on_kernel need ◌>>=◌
right_lengths from to makes K first second e = ap (λ t. need (fault 21 0 0) t >>= λ _. ok (makes K (words first))) e

-- its work is done
pub works : {A : Type 0} (from to : Kernel → ℕ) (makes : Kernel → List ℕ → A) (file first second : List ℕ) (K : Kernel) → read_file file ≡ ok K
    → length first ≡ 4 * from K → length second ≡ 4 * to K → on_areas from to makes file first second ≡ ok (makes K (words first))
works from to makes file first second K e p q =
    call_reads from to makes file first second K e ∙ right_lengths from to makes K first second (and_true (eq-eqb (length first) (4 * from K) p) (eq-eqb (length second) (4 * to K) q))

-- what it answers of it
abbrev pub tells : Memory.Ran → Answer
tells r = record { ending = r.ending; read = r.read; written = r.written }

pub run_answer : {r : Result Fault Memory.Ran} {t : Result Fault Answer} (m : Memory.Ran) → t ≡ answer_of r → r ≡ ok m → t ≡ ok (tells m)
unfolding answer_of
run_answer m h e = h ∙ ap answer_of e

is_finished : (a : Std.Result Unit NotRun) → done a ≡ ok tt → a ≡ Ok tt
unfolding done
is_finished (Err why) e = cc
is_finished (Ok t) e = refl

pub move_finished : {r : Result Fault (List ℕ)} (a : Std.Result Unit NotRun) (m : List ℕ) → done a ≡ finished r → r ≡ ok m → a ≡ Ok tt
unfolding finished
move_finished a m h e = is_finished a (h ∙ ap finished e)

-- and the written memory holds what was made
pub area_left : {A : Type 0} {r : Result Fault A} {after : List ℕ} (memory : A → List ℕ) (before : List ℕ) (m : A)
    → after ≡ afterwards memory before r → r ≡ ok m → after ≡ bytes (memory m)
unfolding afterwards
area_left memory before m h e = h ∙ ap (afterwards memory before) e
