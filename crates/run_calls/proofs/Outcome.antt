-- A run that was started: what the machine's answer and the places come to.
use Prim.Native.Nat.{ℕ, ◌+◌, ◌≤◌}
use mathlib.Core.Path.{◌≡◌, refl, sym, subst}
use mathlib.Core.List.{List}
use native.Mathlib.Omega.{arith}
use lib.ListN.{get_or, replicate}
use Rattle.std.specs.Prelude.{Result, Ok, Err}
use Rattle.numbers.specs.Result.{ok}
use Rattle.numbers.proofs.Rows.{replicate_at}
use Rattle.kernel.specs.File.{Rec, Kernel, input, output}
use Rattle.kernel.specs.Blocks.{Block}
use Rattle.kernel.specs.Machine.{Layout, State, Counters, run}
use Rattle.kernel.specs.Memory as Memory
use Rattle.kernel.specs.Memory.{moved}
use Rattle.parts.specs.declared.Measure.{Measure}
use Rattle.parts.specs.Arrays.{measure}
use Rattle.memory.specs.Sizes.{total, size}
use Rattle.run_blocks.specs.declared.Stuck.{Stuck}
use Rattle.run_blocks.specs.View.{ran}
use Rattle.run_calls.specs.View.{answer_of, ending, answer}
use Rattle.run_calls.proofs.Items.{Leaves, Placed, run_placed, moved_most}

-- ---- the items moved

left_placed : (e : Layout) (answer : Result Unit Stuck) (s : State) → Leaves (Placed e) (ran answer s) → Placed e s
unfolding ran
left_placed e (Ok t) s h = h.leaves
left_placed e (Err u) s h = h.leaves

module _ (e : Layout) (arrays : List Rec) (m : Measure) (answer : Result Unit Stuck) (first s : State) (t : Block) (c : Counters)
    (places : first.places ≡ replicate 8 0)
    (sizes : (q : ℕ) → e.size q ≡ size m arrays q)
    (r : ran answer s ≡ run e t c first) where
  placed : Placed e s
  placed = left_placed e answer s (subst (Leaves (Placed e)) (sym r) (run_placed e t c first (record { most = λ q. subst (λ ps. get_or ps q 0 ≤ e.size q) (sym places) (omega (arith, replicate_at {A = ℕ} 8 q 0)) })))

  pub items_few : (side : ℕ) → moved side 0 arrays s ≤ total side m arrays
  items_few side = moved_most side (measure m) 0 arrays s (λ k. let z : 0 + k ≡ k = omega arith in subst (λ p. get_or s.places p 0 ≤ size m arrays k) (sym z) (subst (λ n. get_or s.places k 0 ≤ n) (sizes k) (placed.most k)))

-- ---- the answer

module _ (K : Kernel) (s : State) where
  pub answered : (e : Result Unit Stuck) (rd wr : ℕ) → rd ≡ moved input 0 K.arrays s → wr ≡ moved output 0 K.arrays s
      → answer (Ok (record { ending = e; read = rd; written = wr })) ≡ answer_of (ok (Memory.ran K (ran e s)))
  unfolding answer answer_of ending ran Memory.ran
  answered (Ok t) rd wr r w = λ i. ok (record { ending = Memory.ended; read = r i; written = w i })
  answered (Err u) rd wr r w = λ i. ok (record { ending = ending (Err u); read = r i; written = w i })

  -- the memory is the state's, ended or stuck
  pub memory_is : (e : Result Unit Stuck) → s.output ≡ (Memory.ran K (ran e s)).memory
  unfolding ran Memory.ran
  memory_is (Ok t) = refl
  memory_is (Err u) = refl
