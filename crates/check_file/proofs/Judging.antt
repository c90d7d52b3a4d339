-- The walk from the beginning of the derivation to its end, and the answer that it comes to.
use Prim.Native.Nat.{◌≤◌, ◌<◌, ◌^◌}
use mathlib.Core.Path.{◌≡◌, refl, sym, ap, subst, ◌∙◌}
use mathlib.Core.Bool.{Bool, true, false}
use mathlib.Core.List.{[]}
use native.Mathlib.Omega.{arith}
use lib.ListN.{length}
use Rattle.std.proofs.Common.{Ok, Err}
use Rattle.numbers.specs.Result.{stop, ◌>>=◌, need, because}
use Rattle.forms.specs.declared.Loops.{Loops}
use Rattle.forms.specs.Code.{loops}
use Rattle.kernel.specs.File as File
use Rattle.kernel.specs.Reading.{open_loops}
use Rattle.kernel.specs.Ledger as L
use Rattle.kernel.specs.Derivation as S
use Rattle.kernel.specs.Check as Check
use Rattle.kernel.specs.Check.{walk_on}
use Rattle.kernel.specs.Named.{misfit}
use Rattle.kernel.specs.declared.refusals.Misfit.TheVariants.{NotCounted}
use Rattle.kernel.proofs.Walking.{walk_whole, Low, walk_low}
use Rattle.parts.specs.declared.Kernel.{Kernel}
use Rattle.parts.proofs.Parts.{reads, few, arrays_count, rule_count, buffers_are}
use Rattle.check_ledger.specs.declared.Ledger.{Ledger}
use Rattle.check_ledger.specs.View.{zeros, ledger}
use Rattle.check_ledger.proofs.Bounds.{zeros_bounded}
use Rattle.check_ledger.proofs.Steps.{fresh_right}
use Rattle.check_take.specs.declared.Place.{Place}
use Rattle.check_take.specs.declared.Refused.{Refused}
use Rattle.check_take.specs.View.{held_by, Taken, place, taken, needed, refusal, Stood}
use Rattle.check_walk.specs.View.{Goes, Opens, Rests}
use Rattle.check_walk.proofs.Walks.{goes_on, goes_nowhere, over_done, comes_over}
use Rattle.check_file.specs.View.{ended}

-- ---- the beginning

pub no_loops : (ls : Loops) → loops ls ≡ [] → S.loops [] ≡ loops ls
unfolding S.loops
no_loops ls o = sym o

-- before the first rule
abbrev pub origin : Place
origin = record { rule = 0; array = 0; stream = 0 }

module _ (k : Kernel) where
  abbrev K : File.Kernel
  K = held_by k

  -- the check comes to what the walk that is left at r comes to
  abbrev pub Comes : Taken → Type 0
  Comes r = Check.check_kernel K ≡ (taken k.counts.a k.counts.b [] r >>= walk_on K)

  module _ {l : Ledger} (q : l ≡ zeros) where
    pub stood : Stood k.counts origin l
    stood = subst (Stood k.counts origin) (sym q) (record { rules = omega arith; arrays = omega arith; streams = omega arith; bounded = zeros_bounded })

    pub opens : (ls : Loops) → ls.count ≡ 0 → Opens k origin ls
    unfolding open_loops
    opens ls o = record { opens = []; reads_on = (reads k.file.now k.counts k.reads).array_program; level = sym o }

    stands : place k.counts.a k.counts.b [] origin l ≡ S.beginning K
    unfolding S.beginning
    stands =
        let e = reads k.file.now k.counts k.reads in
        let m : ledger k.counts.a k.counts.b l ≡ L.fresh K =
        (λ i. ledger (sym (arrays_count k.file.now k.counts) i) (sym (buffers_are k.file.now k.counts) i) (q i))
        ∙ fresh_right K (omega (arith, e.few_arrays)) (omega (arith, e.few_buffers)) in
        λ i. record { rule = 0; array = 0; stream = 0; opened = []; ledger = m i }

    pub comes : (r : Taken) → Goes k [] origin l [] r → Comes r
    comes r g = walk_whole K ∙ ap (walk_on K) (sym stands) ∙ g

  -- ---- the end

  module _ (r : Taken) (g : Comes r) where
    -- the walk is refused
    pub refused : {x : Refused} → r.came ≡ Err x → Check.check_kernel K ≡ stop (refusal x)
    refused z = g ∙ goes_nowhere k [] r z

    -- it comes to an end
    module _ {at : Place} (z : r.came ≡ Ok at) (o : Rests k false at) where
      ending_at : {t : Bool} → t ≡ Check.all_counted K (ledger k.counts.a k.counts.b r.ledger) → Check.check_kernel K ≡ Check.at (place k.counts.a k.counts.b [] at r.ledger) (need 19 t)
      unfolding Check.no_block need ◌>>=◌
      ending_at e =
          let (d, s, u) = comes_over k at o in
          g ∙ goes_on k [] r z ∙ over_done k at r.ledger d [] s u refl ∙ ap (λ t. Check.at (place k.counts.a k.counts.b [] at r.ledger) (need 19 t)) (sym e)

      pub counted : (t : Bool) → t ≡ Check.all_counted K (ledger k.counts.a k.counts.b r.ledger) → ended (needed at NotCounted t) ≡ Check.check_kernel K
      unfolding ended Check.at because need misfit
      counted true e = sym (ending_at e)
      counted false e = sym (ending_at e)

  -- a refusal's places are small
  pub low : (x : Refused) → Check.check_kernel K ≡ stop (refusal x) → (x.at.rule < 2 ^ 16) × (x.at.array < 2 ^ 16) × (x.at.stream < 2 ^ 16)
  unfolding Low Check.check_kernel S.row_count S.beginning
  low x h =
      let m = few k.file.now k.counts k.reads in
      let n = rule_count k.file.now k.counts in
      let b : Low 25600 (Check.check_kernel K) = walk_low K (omega (arith, arrays_count k.file.now k.counts, buffers_are k.file.now k.counts, m.arrays, m.buffers)) 25600 (length K.derivation) (S.beginning K) (omega (arith, n, m.rules)) (omega (arith, n, m.rules)) (omega (arith, n, m.rules)) in
      let (u, v, w) : (x.at.rule ≤ 25600) × (x.at.array ≤ 25600) × (x.at.stream ≤ 25600) = subst (Low 25600) h b in
      (omega (arith, u), omega (arith, v), omega (arith, w))
