-- Demand 1 of the calls: a refusal writes nothing, and old contents change nothing.
use Prim.Native.Nat.{ℕ, ◌*◌}
use mathlib.Core.Path.{◌≡◌, refl, sym, ap, ◌∙◌}
use mathlib.Core.Bool.{◌&&◌}
use mathlib.Core.List.{List}
use lib.Dec.{eqb}
use lib.ListN.{length}
use Rattle.std.specs.Prelude as Std
use Rattle.std.specs.Prelude.{Ok, Err}
use Rattle.numbers.specs.Result.{Result, ok, stop, ◌>>=◌, need}
use Rattle.numbers.specs.Words.{words}
use Rattle.kernel.specs.File.{Kernel, input, output, length_of, count_of}
use Rattle.kernel.specs.Reading.{Fault, fault, read_file}
use Rattle.kernel.specs.Memory as Memory
use Rattle.kernel.specs.Memory.{on_areas, afterwards, total, laid_out, put_back, array_ran, stream_ran, array_run, stream_run, lay_out, putting_back}
use Rattle.run_calls.specs.declared.Ran.{Ran}
use Rattle.run_calls.specs.declared.NotRun.{NotRun}
use Rattle.run_calls.specs.View.{refusal, answer_of, answer, finished, done}
use Rattle.run_calls.specs.Promises.{Runs, Moves}
use Rattle.run_calls.proofs.One.{one_run, one_move}
use Rattle.demands.specs.Demands.{Refuses, Keeps, Demand1}

-- a call looks at the written memory for its length alone
same_call : {A : Type 0} (from to : Kernel → ℕ) (makes : Kernel → List ℕ → A) (file given before other : List ℕ) → length before ≡ length other
    → on_areas from to makes file given before ≡ on_areas from to makes file given other
unfolding on_areas
same_call from to makes file given before other h = ap (λ n. read_file file >>= λ K. need (fault 21 0 0) (eqb (length given) (4 * from K) && eqb n (4 * to K)) >>= λ t. ok (makes K (words given))) h

-- ---- runs

run_stops : (r : Result Fault Memory.Ran) (f : Fault) (before : List ℕ) → answer_of r ≡ stop f → afterwards (λ m. m.memory) before r ≡ before
unfolding answer_of afterwards
run_stops (ok m) f before e = cc
run_stops (stop g) f before e = refl

run_goes : (r : Result Fault Memory.Ran) (a : Std.Result Ran NotRun) (before other : List ℕ) → answer a ≡ answer_of r → (Refuses a → ⊥) → afterwards (λ m. m.memory) before r ≡ afterwards (λ m. m.memory) other r
unfolding answer_of afterwards answer
run_goes (ok m) a before other e n = refl
run_goes (stop f) (Err why) before other e n = absurd (n (why, refl))
run_goes (stop f) (Ok t) before other e n = cc

run_keeps : (from to : Kernel → ℕ) (makes : Kernel → List ℕ → Memory.Ran) → Keeps (λ file given before a after. Runs (on_areas from to makes file given before) before a after) Refuses
unfolding answer
run_keeps from to makes = record {
  writes_nothing = λ file given before a after p (why, e).
      p.1 ∙ run_stops (on_areas from to makes file given before) (refusal why) before (sym p.0 ∙ ap answer e);
  old_contents = λ file given before other a b x y h p q.
      let s = same_call from to makes file given before other h in
      let q' : Runs (on_areas from to makes file given before) other b y = (q.0 ∙ ap answer_of (sym s), q.1 ∙ ap (afterwards (λ m. m.memory) other) (sym s)) in (
        (one_run (on_areas from to makes file given before) other a b (afterwards (λ m. m.memory) other (on_areas from to makes file given before)) y (p.0, refl) q').0,
        λ n. p.1 ∙ run_goes (on_areas from to makes file given before) a before other p.0 n ∙ sym q'.1,
      );
}

-- ---- laying out and putting back

move_stops : (r : Result Fault (List ℕ)) (f : Fault) (before : List ℕ) → finished r ≡ stop f → afterwards (λ m. m) before r ≡ before
unfolding finished afterwards
move_stops (ok m) f before e = cc
move_stops (stop g) f before e = refl

move_goes : (r : Result Fault (List ℕ)) (a : Std.Result Unit NotRun) (before other : List ℕ) → done a ≡ finished r → (Refuses a → ⊥) → afterwards (λ m. m) before r ≡ afterwards (λ m. m) other r
unfolding finished afterwards done
move_goes (ok m) a before other e n = refl
move_goes (stop f) (Err why) before other e n = absurd (n (why, refl))
move_goes (stop f) (Ok t) before other e n = cc

move_keeps : (from to : Kernel → ℕ) (makes : Kernel → List ℕ → List ℕ) → Keeps (λ file given before a after. Moves (on_areas from to makes file given before) before a after) Refuses
unfolding done
move_keeps from to makes = record {
  writes_nothing = λ file given before a after p (why, e).
      p.1 ∙ move_stops (on_areas from to makes file given before) (refusal why) before (sym p.0 ∙ ap done e);
  old_contents = λ file given before other a b x y h p q.
      let s = same_call from to makes file given before other h in
      let q' : Moves (on_areas from to makes file given before) other b y = (q.0 ∙ ap finished (sym s), q.1 ∙ ap (afterwards (λ m. m) other) (sym s)) in (
        (one_move (on_areas from to makes file given before) other a b (afterwards (λ m. m) other (on_areas from to makes file given before)) y (p.0, refl) q').0,
        λ n. p.1 ∙ move_goes (on_areas from to makes file given before) a before other p.0 n ∙ sym q'.1,
      );
}

pub demand_1 : Demand1
unfolding array_run stream_run lay_out putting_back
demand_1 = record {
  array_run = run_keeps (total input length_of) (total output length_of) array_ran;
  stream_run = run_keeps (total input count_of) (total output count_of) stream_ran;
  laying_out = move_keeps (total input length_of) (total input count_of) laid_out;
  putting_back = move_keeps (total output count_of) (total output length_of) put_back;
}
