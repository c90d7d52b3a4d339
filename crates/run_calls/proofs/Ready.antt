-- What a kernel that was read is ready for: its programs fit; the first state of a run, and how many items there can be.
use Prim.Native.Nat.{ℕ, zero, suc, ◌*◌, ◌≤◌}
use mathlib.Core.Path.{◌≡◌, refl, sym, ap, ◌∙◌}
use mathlib.Core.Bool.{Bool, true, false, cond}
use mathlib.Core.List.{List, [], ◌∷◌}
use mathlib.Core.Option.{none}
use native.Mathlib.Omega.{arith}
use native.Mathlib.Nat as NatL
use lib.ListN.{length, get_or, replicate}
use Rattle.std.specs.Prelude.{None}
use Rattle.numbers.specs.Lists.{sum}
use Rattle.numbers.specs.Words.{words, bytes}
use Rattle.numbers.specs.Areas.{AllBelow, none_there, below_too}
use Rattle.numbers.proofs.Areas.{words_bytes, zeros_bytes}
use Rattle.kernel.specs.File.{Rec, Kernel, input, output, on, only, length_of, count_of, array}
use Rattle.kernel.specs.Reading.{Scope, array_scope, stream_scope}
use Rattle.kernel.specs.Trees.{tree_at, tree}
use Rattle.kernel.specs.Memory as Memory
use Rattle.kernel.specs.Memory.{before, start}
use Rattle.kernel.specs.Guarantees.{ArrayFits, All, Nested, Reads}
use Rattle.parts.specs.declared.Measure.{Measure}
use Rattle.parts.specs.declared.Measure.TheVariants.{Cells, Items}
use Rattle.parts.specs.Arrays.{measure}
use Rattle.memory.specs.Sizes.{total, size, base}
use Rattle.run_ops.specs.declared.Layout.{Layout}
use Rattle.run_ops.specs.States.{known, state}
use Rattle.run_ops.specs.Layout.{layout}
use Rattle.run_calls.specs.View.{program}

-- ---- lengths of one side, cells or items, are at most 8,192

count_fits : (side : ℕ) (a : Rec) → ArrayFits a → only side count_of a ≤ only side length_of a
unfolding only
count_fits side a f = by (on side a)
  where
    by : (t : Bool) → cond t (count_of a) 0 ≤ cond t (length_of a) 0
    by true = f.counted
    by false = omega arith

counts_fit : (side : ℕ) (rs : List Rec) → All ArrayFits rs → total side Items rs ≤ total side Cells rs
unfolding sum measure
counts_fit side [] f = omega arith
counts_fit side (a ∷ rs) f = NatL.add-le-add (count_fits side a f.0) (counts_fit side rs f.1)

-- ---- of a kernel that was read

-- what reading has found of a program
pub record Ready (program : List Rec) : Type 0 where
  pub scope : Scope
  pub nested : Nested scope [] program
  pub few_registers : scope.registers ≤ 48
  pub few_arrays : length scope.arrays ≤ 8

module _ (K : Kernel) (r : Reads K) where
  pub ready : (m : Measure) → Ready (program m K)
  unfolding program
  ready Cells = record { scope = array_scope K; nested = r.array_program; few_registers = omega (arith, r.few_registers); few_arrays = r.few_arrays }
  ready Items = record { scope = stream_scope K; nested = r.stream_program; few_registers = omega (arith, r.few_registers, r.few_buffers); few_arrays = r.few_arrays }

  side_few : (side : ℕ) → total side Cells K.arrays ≤ 8192 → (m : Measure) → total side m K.arrays ≤ 8192
  side_few side h Cells = h
  side_few side h Items = NatL.le_trans (counts_fit side K.arrays r.arrays) h

  pub inputs_few : (m : Measure) → total input m K.arrays ≤ 8192
  unfolding measure
  inputs_few = side_few input r.input_lengths

  pub outputs_few : (m : Measure) → total output m K.arrays ≤ 8192
  unfolding measure
  outputs_few = side_few output r.output_lengths

-- ---- the first state

zeros_small : (n : ℕ) → AllBelow 4294967296 (replicate n 0)
zeros_small zero = none_there
zeros_small (suc n) = below_too {x = 0} (omega arith) (zeros_small n)

-- an area of 4 × n bytes that was cleared is n words, all 0, and nothing else
module _ (area : List ℕ) (n : ℕ) (e : length area ≡ 4 * n) (out : List ℕ) (z : out ≡ replicate (length area) 0) where
  cleared : out ≡ bytes (replicate n 0)
  cleared = z ∙ ap (λ k. replicate k 0) e ∙ zeros_bytes n

  pub cleared_words : words out ≡ replicate n 0
  cleared_words = ap words cleared ∙ words_bytes (zeros_small n)

  pub cleared_whole : bytes (words out) ≡ out
  cleared_whole = ap bytes cleared_words ∙ sym cleared

module _ (K : Kernel) (m : Measure) where
  pub layout_is : (l : Layout) → ((q : ℕ) → get_or l.sizes q 0 ≡ size m K.arrays q) → ((q : ℕ) → get_or l.bases q 0 ≡ base m K.arrays q)
      → layout l ≡ Memory.layout (measure m) K (words l.input.now)
  unfolding Memory.layout array before
  layout_is l u v = λ i. record { size = λ q. u q i; base = λ q. v q i; input = words l.input.now }

  -- registers unset, places 0, the output's words 0
  pub start_is : (ws : List ℕ) → ws ≡ replicate (total output m K.arrays) 0 → state (record { registers = replicate 48 None; places = replicate 8 0 }) ws ≡ start (measure m) K
  unfolding start Memory.total known
  start_is ws e = λ i. record { registers = replicate 48 none; places = replicate 8 0; output = e i }

pub tree_is : (rs : List Rec) → tree_at rs 0 ≡ tree rs
unfolding tree
tree_is rs = refl
