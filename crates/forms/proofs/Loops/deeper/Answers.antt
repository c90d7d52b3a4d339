-- `forms::Loops::deeper` meets its contract: the new loop stands at the end, and the levels below it are as they were.
use mathlib.Core.Path.{◌≡◌, refl}
use mathlib.Core.Bool.{Bool, true, false}
use mathlib.Core.List.{[], ◌∷◌, ◌++◌, map}
use lib.ListN.{length, get_or, set}
use lib.Dec.{ltb}
use Prim.Native.Nat.{ℕ, ◌+◌, ◌<◌}
use native.Mathlib.Omega.{arith}
use borrow.Author.Tests.{ltb-true, ltb-false}
use Rattle.std.proofs.Common.{rules}
use Rattle.std.proofs.lemmas.List.{take_more_set, map-set, length-map, get_or-set_same, get_or-set_other}
use Rattle.forms.specs.Code.{loop, loops, Turns, Turning, no_loop}
use Rattle.forms.specs.declared.Loops.{Loops}
use Rattle.forms.proofs.Loops.deeper.Goals.{Start}
use Rattle.forms.proofs.Loops.deeper.Goals as goal

module _ (c : Start) where
  there : c.args.self.count < length c.args.self.levels
  there = let h = c.requires.0 in let four : length c.args.self.levels ≡ 4 = search rules in omega arith

  abbrev after : ℕ → Loops
  after level = record { count = c.args.self.count + 1; levels = set c.args.self.levels level c.args.l }

  abbrev Put : ℕ → Type 0
  Put level = (loops (after level) ≡ loops c.args.self ++ loop c.args.l ∷ []) × Turning (after level) × ((after level).count ≡ c.args.self.count + 1)

  turns : (level : ℕ) → level < 4 → level < c.args.self.count + 1 → Turns (get_or (set c.args.self.levels c.args.self.count c.args.l) level no_loop)
  turns level h k = by (ltb level c.args.self.count) refl
    where
      by : (t : Bool) → ltb level c.args.self.count ≡ t → Turns (get_or (set c.args.self.levels c.args.self.count c.args.l) level no_loop)
      by true e =
          let m = ltb-true level c.args.self.count e in
          rw (get_or-set_other c.args.self.levels c.args.self.count level c.args.l no_loop (λ q. omega arith)) (c.requires.1.turns level h m)
      by false e =
          let m : level ≡ c.args.self.count = omega (arith, ltb-false level c.args.self.count e) in
          rw (m, get_or-set_same c.args.self.levels c.args.self.count c.args.l no_loop there) c.requires.2

  -- with the loop put at some level: that it is the one after those around is asked where the code is
  put : (level : ℕ) → level ≡ c.args.self.count → Put level
  put level at =
      let s = c.args in
      let e = take_more_set (map loop s.self.levels) s.self.count (loop s.l) (rw length-map there) in
      rw at (rw (map-set loop s.self.levels s.self.count s.l) e, record { turns = turns }, refl)

pub returns : goal.returns
returns c = put c _ (omega arith)
