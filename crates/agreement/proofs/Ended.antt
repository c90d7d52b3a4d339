-- Demand 1: enough rules and digits, lengths kept, and the bound on a run's steps, by induction over the block.
use mathlib.Core.Path.{◌≡◌, refl, sym, ap, ◌∙◌}
use mathlib.Core.Bool.{Bool, true, false, cond}
use mathlib.Core.List.{List, []}
use Prim.Native.Nat.{ℕ, zero, suc, ◌+◌, ◌*◌, ◌≤◌}
use native.Mathlib.Omega.{arith}
use native.Mathlib.Nat as NatL
use lib.Dec.{eqb}
use lib.ListN.{length, length-set, length-replicate}
use lib.IntN.{ℤ}
use Rattle.numbers.specs.Result.{Result, ok, stop, ◌>>=◌, because}
use Rattle.numbers.proofs.Results.{On, on_ok, on_then, on_any, on_at}
use Rattle.kernel.specs.File.{Rec, Kernel, output, length_of, count_of, Op, set, copy, work, load, store, read, write}
use Rattle.kernel.specs.Reading.{Scope, array_scope, stream_scope, Open, all_passes}
use Rattle.kernel.specs.Blocks.{Block, stops, plain, loop, branch, IsBlock, row_over, row_plain, row_for, row_if}
use Rattle.kernel.specs.Machine.{Layout, State, Counters, get, put, advance, keep, perform, Stuck, stuck, step, choose, in_pass, repeat, run}
use Rattle.kernel.specs.Memory.{total, ran, layout, start, outside, array_ran, stream_ran}
use Rattle.kernel.specs.Trees.{tree}
use Rattle.kernel.specs.Derivation.{beginning}
use Rattle.kernel.specs.Check.{check_kernel}
use Rattle.kernel.specs.Guarantees.{Nested}
use Rattle.kernel.proofs.Readable.{file_reads}
use Rattle.kernel.proofs.Fronts.{From, read_plain, read_for, read_if, read_else, read_end_for, read_end_if, through}
use Rattle.kernel.proofs.Trees.{tree_block}
use Rattle.kernel.proofs.Walking.{same_walk}
use Rattle.kernel.proofs.Digits.{enough}
use Rattle.agreement.specs.Ends.{EnoughRules, EnoughDigits, LengthsKept, after, pass_steps, chosen_steps, steps, allowed, FewSteps, Ends}

-- ---- digits

pub enough_digits : EnoughDigits
enough_digits n f rest h = enough f (suc n) n rest h (omega arith)

-- ---- rules

pub enough_rules : EnoughRules
unfolding check_kernel beginning
enough_rules K n h = same_walk K n (length K.derivation) (beginning K) (omega arith) (omega arith)

-- ---- lengths

-- the length of the output, ended or stuck
abbrev Keeps : ℕ → Result Stuck State → Type 0
Keeps n (ok s) = length s.output ≡ n
Keeps n (stop (stuck r i s)) = length s.output ≡ n

-- an operation either changes no output cell or changes one
performed_length : (e : Layout) (cs : List ℤ) (o : Op) (s : State) → On (λ s'. length s'.output ≡ length s.output) (perform e cs o s)
unfolding perform put advance keep
performed_length e cs (set p f) s = on_ok refl
performed_length e cs (copy p q) s = on_then _ (on_any {P = λ _. Unit {0}} (λ t. tt)) λ w u. on_ok refl
performed_length e cs (work o p q k) s =
    on_then _ (on_any {P = λ _. Unit {0}} (λ t. tt)) λ a u. on_then _ (on_any {P = λ _. Unit {0}} (λ t. tt)) λ b u. on_then _ (on_any {P = λ _. Unit {0}} (λ t. tt)) λ w u. on_ok refl
performed_length e cs (load p q f) s = on_then _ (on_any {P = λ _. Unit {0}} (λ t. tt)) λ i u. on_ok refl
performed_length e cs (store p q f) s =
    on_then _ (on_any {P = λ _. Unit {0}} (λ t. tt)) λ w u. on_then _ (on_any {P = λ _. Unit {0}} (λ t. tt)) λ i u. on_ok (length-set s.output (e.base q + i) w)
performed_length e cs (read p q) s = on_then _ (on_any {P = λ _. Unit {0}} (λ t. tt)) λ i u. on_ok refl
performed_length e cs (write p q) s =
    on_then _ (on_any {P = λ _. Unit {0}} (λ t. tt)) λ w u. on_then _ (on_any {P = λ _. Unit {0}} (λ t. tt)) λ i u. on_ok (length-set s.output (e.base q + i) w)

keeps_then : {n : ℕ} (r : Result Stuck State) (f : State → Result Stuck State) → Keeps n r → ((s : State) → length s.output ≡ n → Keeps n (f s)) → Keeps n (r >>= f)
unfolding ◌>>=◌
keeps_then (ok s) f h k = k s h
keeps_then (stop (stuck r i s)) f h k = h

step_keeps : {n : ℕ} (e : Layout) (i : ℕ) (o : Op) (c : Counters) (s : State) → length s.output ≡ n → Keeps n (step e i o c s)
unfolding step because
step_keeps {n} e i o c s h = by (perform e c.values o s) (performed_length e c.values o s)
  where
    by : (r : Result ℕ State) → On (λ s'. length s'.output ≡ length s.output) r → Keeps n (because (λ reason. stuck reason i s) r)
    by (ok s') k = k.on ∙ h
    by (stop r) k = h

repeat_keeps : {n : ℕ} (f : ℕ → State → Result Stuck State) → ((m : ℕ) (s : State) → length s.output ≡ n → Keeps n (f m s)) → (k m : ℕ) (s : State) → length s.output ≡ n → Keeps n (repeat f k m s)
unfolding repeat
repeat_keeps f g zero m s h = h
repeat_keeps f g (suc k) m s h = keeps_then (f m s) (repeat f k (m + 1)) (g m s h) (λ s' h'. repeat_keeps f g k (m + 1) s' h')

choose_keeps : {n : ℕ} (i p : ℕ) (f g : State → Result Stuck State) → ((s : State) → length s.output ≡ n → Keeps n (f s)) → ((s : State) → length s.output ≡ n → Keeps n (g s)) → (s : State) → length s.output ≡ n → Keeps n (choose i p f g s)
unfolding choose because ◌>>=◌
choose_keeps {n} i p f g hf hg s h = by (get p s)
  where
    pick : (t : Bool) → Keeps n (cond t g f s)
    pick true = hg s h
    pick false = hf s h

    by : (r : Result ℕ ℕ) → Keeps n (because (λ reason. stuck reason i s) r >>= λ w. cond (eqb w 0) g f s)
    by (ok w) = pick (eqb w 0)
    by (stop r) = h

run_keeps : {n : ℕ} (e : Layout) (t : Block) (c : Counters) (s : State) → length s.output ≡ n → Keeps n (run e t c s)
unfolding run
run_keeps e (stops i) c s h = h
run_keeps e (plain i o rest) c s h = keeps_then (step e i o c s) (λ s. run e rest c s) (step_keeps e i o c s h) (λ s' h'. run_keeps e rest c s' h')
run_keeps e (loop i l body rest) c s h =
    keeps_then (repeat (λ m s. run e body (in_pass l c m) s) l.passes 0 s) (λ s. run e rest c s)
    (repeat_keeps (λ m s. run e body (in_pass l c m) s) (λ m s' h'. run_keeps e body (in_pass l c m) s' h') l.passes 0 s h) (λ s' h'. run_keeps e rest c s' h')
run_keeps e (branch i p first second rest) c s h =
    keeps_then (choose i p (λ s. run e first c s) (λ s. run e second c s) s) (λ s. run e rest c s)
    (choose_keeps i p (λ s. run e first c s) (λ s. run e second c s) (λ s' h'. run_keeps e first c s' h') (λ s' h'. run_keeps e second c s' h') s h) (λ s' h'. run_keeps e rest c s' h')

ran_length : (K : Kernel) {n : ℕ} (r : Result Stuck State) → Keeps n r → length (ran K r).memory ≡ n
unfolding ran
ran_length K (ok s) h = h
ran_length K (stop (stuck r i s)) h = h

pub lengths_kept : (K : Kernel) (memory : List ℕ) → LengthsKept K memory
unfolding array_ran stream_ran start
lengths_kept K memory = record {
  array_run = ran_length K _ (run_keeps (layout length_of K memory) (tree K.array_program) outside (start length_of K) (length-replicate {A = ℕ} (total output length_of K) 0));
  stream_run = ran_length K _ (run_keeps (layout count_of K memory) (tree K.stream_program) outside (start count_of K) (length-replicate {A = ℕ} (total output count_of K) 0));
}

-- ---- steps

after_most : (r : Result Stuck State) (n : ℕ) (f : State → ℕ) → ((s : State) → f s ≤ n) → after r f ≤ n
unfolding after
after_most (ok s) n f h = h s
after_most (stop b) n f h = omega arith

passes_most : (f : ℕ → State → Result Stuck State) (g : ℕ → State → ℕ) (b : ℕ) → ((m : ℕ) (s : State) → g m s ≤ b) → (n m : ℕ) (s : State) → pass_steps f g n m s ≤ n * suc b
unfolding pass_steps
passes_most f g b h zero m s = omega arith
passes_most f g b h (suc n) m s =
    let first = h m s in
    let rest = after_most (f m s) (suc (n * suc b)) (λ s. suc (pass_steps f g n (m + 1) s)) (λ s'. let r = passes_most f g b h n (m + 1) s' in omega arith) in
    omega (arith, NatL.suc-mul n (suc b))

chosen_most : (r : Result ℕ ℕ) (a b n m : ℕ) → a ≤ n → b ≤ m → chosen_steps r a b ≤ n + m
unfolding chosen_steps
chosen_most (ok w) a b n m h k = by (eqb w 0)
  where
    by : (t : Bool) → cond t b a ≤ n + m
    by true = omega arith
    by false = omega arith
chosen_most (stop r) a b n m h k = omega arith

steps_most : (e : Layout) (t : Block) (c : Counters) (s : State) → steps e t c s ≤ allowed t
unfolding steps allowed
steps_most e (stops i) c s = omega arith
steps_most e (plain i o rest) c s = let r = after_most (step e i o c s) (allowed rest) (λ s. steps e rest c s) (λ s'. steps_most e rest c s') in omega arith
steps_most e (loop i l body rest) c s =
    let p = passes_most (λ m s. run e body (in_pass l c m) s) (λ m s. steps e body (in_pass l c m) s) (allowed body) (λ m s'. steps_most e body (in_pass l c m) s') l.passes 0 s in
    let r = after_most (repeat (λ m s. run e body (in_pass l c m) s) l.passes 0 s) (allowed rest) (λ s. steps e rest c s) (λ s'. steps_most e rest c s') in
    omega arith
steps_most e (branch i p first second rest) c s =
    let q = chosen_most (get p s) (steps e first c s) (steps e second c s) (allowed first) (allowed second) (steps_most e first c s) (steps_most e second c s) in
    let r = after_most (choose i p (λ s. run e first c s) (λ s. run e second c s) s) (allowed rest) (λ s. steps e rest c s) (λ s'. steps_most e rest c s') in
    omega arith

-- P: the passes of the loops around
plain_few : (P r i j : ℕ) → P ≤ 65536 → P * r + 65536 * suc i ≤ 65536 * j → P * suc r + 65536 * i ≤ 65536 * j
plain_few P r i j few h = omega (arith, NatL.mul-suc P r)

loop_few : (P p b r i e j : ℕ) → P ≤ 65536 → p * P ≤ 65536 → p * P * b + 65536 * suc i ≤ 65536 * e → P * r + 65536 * suc e ≤ 65536 * j → P * suc (p * suc b + r) + 65536 * i ≤ 65536 * j
loop_few P p b r i e j few more inner outer =
    let times : P * (p * suc b) ≡ p * P * b + p * P = sym (NatL.mul_assoc P p (suc b)) ∙ ap (λ n. n * suc b) (NatL.mul_comm P p) ∙ NatL.mul-suc (p * P) b in
    omega (arith, NatL.mul-suc P (p * suc b + r), NatL.mul-add P (p * suc b) r)

branch_few : (P f s r i m e j : ℕ) → P ≤ 65536 → P * f + 65536 * suc i ≤ 65536 * m → P * s + 65536 * suc m ≤ 65536 * e → P * r + 65536 * suc e ≤ 65536 * j → P * suc (f + s + r) + 65536 * i ≤ 65536 * j
branch_few P f s r i m e j few a b c = omega (arith, NatL.mul-suc P (f + s + r), NatL.mul-add P (f + s) r, NatL.mul-add P f s)

-- the passes of the loops around, times what a block allows, are at most 65,536 for each of its records
few_allowed : (c : Scope) (rs : List Rec) {t : Block} {os : List Open} {i j : ℕ} → all_passes os ≤ 65536 → IsBlock rs t i j → From c rs os i → all_passes os * allowed t + 65536 * i ≤ 65536 * j
unfolding allowed all_passes
few_allowed c rs {os} few (row_over s) n = omega (arith, NatL.mul-zero (all_passes os))
few_allowed c rs {os} {j} few (row_plain {i} {rest} x r) n = plain_few (all_passes os) (allowed rest) i j few (few_allowed c rs few r (read_plain c rs i n x).2)
few_allowed c rs {os} {j} few (row_for {i} {e = m} {l} {body} {rest} x b y r) n =
    let (fits, room, inner) = read_for c rs i n x in
    loop_few (all_passes os) l.passes (allowed body) (allowed rest) i m j few room.passes
    (few_allowed c rs room.passes b inner) (few_allowed c rs few r (read_end_for c rs m (through c rs b inner) y))
few_allowed c rs {os} {j} few (row_if {i} {m} {e = last} {first} {second} {rest} x a y b z r) n =
    let (fits, room, inner) = read_if c rs i n x in
    let other = read_else c rs m (through c rs a inner) y in
    branch_few (all_passes os) (allowed first) (allowed second) (allowed rest) i m last j few
    (few_allowed c rs few a inner) (few_allowed c rs few b other) (few_allowed c rs few r (read_end_if c rs last (through c rs b other) z))

few_steps : (K : Kernel) (c : Scope) (rs : List Rec) → Nested c [] rs → FewSteps K rs
unfolding all_passes
few_steps K c rs n = record {
  as_allowed = λ e s. steps_most e (tree rs) outside s;
  each_few = omega (arith, few_allowed c rs {os = []} (omega arith) (tree_block c rs n).is n, NatL.one-mul (allowed (tree rs)));
}

pub ends : Ends
ends = record {
  enough_rules = enough_rules;
  enough_digits = enough_digits;
  lengths_kept = lengths_kept;
  few_array_steps = λ file K e. few_steps K (array_scope K) K.array_program (on_at (file_reads file) e).array_program;
  few_stream_steps = λ file K e. few_steps K (stream_scope K) K.stream_program (on_at (file_reads file) e).stream_program;
}
