-- The walk of the check at a place: it takes the rule there and goes on, or the derivation is over. How many rules it may take does not matter
-- where they are enough, since each rule that is taken goes further on.
use mathlib.Core.Path.{◌≡◌, refl, sym, ap, ◌∙◌}
use mathlib.Core.Bool.{Bool, true, false, false≢true}
use mathlib.Core.List.{List, [], ◌∷◌}
use Prim.Native.Nat.{ℕ, zero, suc, ◌+◌, ◌-◌, ◌*◌, ◌<◌, ◌≤◌}
use native.Mathlib.Omega.{arith}
use lib.Dec.{leb}
use lib.ListN.{length}
use borrow.Author.Tests.{le-leb, lt-leb}
use Rattle.numbers.specs.Result.{Result, ok, stop, ◌>>=◌, because}
use Rattle.numbers.proofs.Results.{On, on_ok, on_stop, on_then, on_because, on_any, on_at}
use Rattle.kernel.specs.File.{Rec, Kernel}
use Rattle.kernel.specs.Ledger.{Ledger}
use Rattle.kernel.specs.Derivation.{Opened, in_for, in_if, in_else, Place, beginning, next_rule, next_array, next_stream, went, row_count, Rule, same_rule, read_rule, fill_rule, use_rule, move_rule, write_rule, for_rule, if_rule, else_rule, end_rule, no_rule, rule}
use Rattle.kernel.specs.Check.{at_else, at_end, effect, follow, Refusal, refused_at, at, take_rule, no_block, finish, walk, walk_on, check_kernel}

-- the test that no block is open says so
pub none_open : (os : List Opened) → no_block os ≡ true → os ≡ []
unfolding no_block
none_open [] e = refl
none_open (o ∷ os) e = absurd (false≢true e)

-- a rule that is taken goes further on: past itself and at most its hold rows, and past at most one statement of each program
pub record GoesFurther (K : Kernel) (c d : Place) : Type 0 where
  pub more : c.rule < d.rule
  pub rules : d.rule ≤ c.rule + suc (row_count K)
  pub arrays : d.array ≤ c.array + 1
  pub streams : d.stream ≤ c.stream + 1

goes : (K : Kernel) (c : Place) (r a s : ℕ) (os : List Opened) (L : Ledger) → 1 ≤ r → r ≤ suc (row_count K) → a ≤ 1 → s ≤ 1 → On {E = ℕ} (GoesFurther K c) (ok (went r a s os L c))
unfolding went
goes K c r a s os L h k i j = on_ok (record { more = omega arith; rules = omega arith; arrays = omega arith; streams = omega arith })

taken_further : (K : Kernel) (c : Place) → On (GoesFurther K c) (take_rule K c)
unfolding take_rule at follow effect at_else at_end
taken_further K c = on_because _ (on_then _ (on_any {P = λ _. Unit {0}} (λ t. tt)) λ t u. by (rule (next_rule K c).code) (next_array K c) (next_stream K c))
  where
    one_on : (a : ℕ) → a ≤ 1 → (os : List Opened) (L : Ledger) → On {E = ℕ} (GoesFurther K c) (ok (went 1 a 1 os L c))
    one_on a h os L = goes K c 1 a 1 os L (omega arith) (omega arith) h (omega arith)

    one : {A : Type 0} (m : Result ℕ A) (f : A → Result ℕ Place) → ((a : A) → On (GoesFurther K c) (f a)) → On (GoesFurther K c) (m >>= f)
    one m f h = on_then f (on_any {P = λ _. Unit {0}} (λ t. tt)) λ a u. h a

    at_block_end : (os : List Opened) → On (GoesFurther K c) (at_end os c)
    at_block_end [] = on_stop
    at_block_end (in_for l rows ∷ os) = one _ _ λ t. one_on 1 (omega arith) _ _
    at_block_end (in_if L ∷ os) = on_stop
    at_block_end (in_else first ∷ os) = one _ _ λ t. one_on 1 (omega arith) _ _

    at_block_else : (os : List Opened) → On (GoesFurther K c) (at_else os c)
    at_block_else [] = on_stop
    at_block_else (in_for l rows ∷ os) = on_stop
    at_block_else (in_if L ∷ os) = one_on 1 (omega arith) _ _
    at_block_else (in_else first ∷ os) = on_stop

    by : (r : Rule) (a s : Rec) → On (GoesFurther K c) (effect K c r a s)
    by same_rule a s = one_on 1 (omega arith) _ _
    by read_rule a s = one _ _ λ t. one _ _ λ t. one_on 1 (omega arith) _ _
    by fill_rule a s = one _ _ λ t. one_on 0 (omega arith) _ _
    by use_rule a s = one _ _ λ t. one_on 1 (omega arith) _ _
    by move_rule a s = one _ _ λ t. one_on 0 (omega arith) _ _
    by write_rule a s = one _ _ λ t. one _ _ λ t. one_on 1 (omega arith) _ _
    by for_rule a s = one _ _ λ t. goes K c (suc (row_count K)) 1 1 _ _ (omega arith) (omega arith) (omega arith) (omega arith)
    by if_rule a s = one_on 1 (omega arith) _ _
    by else_rule a s = at_block_else c.opened
    by end_rule a s = at_block_end c.opened
    by no_rule a s = on_stop

-- a walk that may take more rules than are left
pub same_walk : (K : Kernel) (n m : ℕ) (c : Place) → length K.derivation ≤ c.rule + n → length K.derivation ≤ c.rule + m → walk K n c ≡ walk K m c
unfolding walk
same_walk K zero zero c h k = refl
same_walk K zero (suc m) c h k = sym (over (leb (length K.derivation) c.rule) (le-leb (length K.derivation) c.rule (omega arith)))
  where
    over : (t : Bool) → t ≡ true → ◌≡◌ {A = Result Refusal (Unit {0})} (elim t [ true ↦ finish K c | false ↦ take_rule K c >>= walk K m ]) (finish K c)
    over true e = refl
    over false e = absurd (false≢true e)
same_walk K (suc n) zero c h k = over (leb (length K.derivation) c.rule) (le-leb (length K.derivation) c.rule (omega arith))
  where
    over : (t : Bool) → t ≡ true → ◌≡◌ {A = Result Refusal (Unit {0})} (elim t [ true ↦ finish K c | false ↦ take_rule K c >>= walk K n ]) (finish K c)
    over true e = refl
    over false e = absurd (false≢true e)
same_walk K (suc n) (suc m) c h k = by (leb (length K.derivation) c.rule) (λ d l. same_walk K n m d (omega arith) (omega arith))
  where
    by : (t : Bool) → ((d : Place) → c.rule < d.rule → walk K n d ≡ walk K m d)
        → ◌≡◌ {A = Result Refusal (Unit {0})} (elim t [ true ↦ finish K c | false ↦ take_rule K c >>= walk K n ]) (elim t [ true ↦ finish K c | false ↦ take_rule K c >>= walk K m ])
    by true r = refl
    by false r = onward (take_rule K c) (taken_further K c) r
      where
        onward : (x : Result Refusal Place) → On (GoesFurther K c) x → ((d : Place) → c.rule < d.rule → walk K n d ≡ walk K m d) → (x >>= walk K n) ≡ (x >>= walk K m)
        onward (ok d) l r = unfold ◌>>=◌ in r d l.on.more
        onward (stop b) l r = unfold ◌>>=◌ in refl

-- ---- the walk from a stand on

pub walk_whole : (K : Kernel) → check_kernel K ≡ walk_on K (beginning K)
unfolding walk_on check_kernel beginning
walk_whole K = same_walk K (length K.derivation) (length K.derivation - 0) (beginning K) (omega arith) (omega arith)

module _ (K : Kernel) (c : Place) where
  abbrev left : ℕ
  left = length K.derivation - c.rule

  -- the derivation is over
  pub walk_over : length K.derivation ≤ c.rule → walk_on K c ≡ finish K c
  unfolding walk_on walk
  walk_over h =
      let e : left ≡ 0 = omega arith in
      ap (λ n. walk K n c) e

  one_rule : (n : ℕ) → c.rule < length K.derivation → walk K (suc n) c ≡ (take_rule K c >>= walk K n)
  unfolding walk
  one_rule n h = ap (λ (t : Bool). elim t as (λ t. Result Refusal (Unit {0})) [ true ↦ finish K c | false ↦ take_rule K c >>= walk K n ]) (lt-leb (length K.derivation) c.rule h)

  -- a rule stands there
  module _ (h : c.rule < length K.derivation) where
    walk_rule : walk_on K c ≡ (take_rule K c >>= walk K (left - 1))
    unfolding walk_on
    walk_rule =
        let e : left ≡ suc (left - 1) = omega arith in
        ap (λ n. walk K n c) e ∙ one_rule (left - 1) h

    abbrev followed : Result ℕ Place
    followed = follow K c (rule (next_rule K c).code) (next_array K c) (next_stream K c)

    -- it is refused with this number
    pub walk_stops : (number : ℕ) → followed ≡ stop number → walk_on K c ≡ stop (refused_at c number)
    unfolding take_rule at because ◌>>=◌
    walk_stops number e = walk_rule ∙ ap (λ r. because (refused_at c) r >>= walk K (left - 1)) e

    -- it brings the derivation to d
    pub walk_goes : (d : Place) → followed ≡ ok d → walk_on K c ≡ walk_on K d
    unfolding take_rule at because ◌>>=◌ walk_on
    walk_goes d e =
        walk_rule ∙ ap (λ r. because (refused_at c) r >>= walk K (left - 1)) e
        ∙ same_walk K (left - 1) (length K.derivation - d.rule) d (omega (arith, (on_at (taken_further K c) taken).more)) (omega arith)
      where
        taken : take_rule K c ≡ ok d
        taken = ap (because (refused_at c)) e

    -- it is taken, then the walk goes on
    pub walk_take : walk_on K c ≡ (take_rule K c >>= walk_on K)
    unfolding take_rule at because ◌>>=◌
    walk_take = by followed refl
      where
        by : (x : Result ℕ Place) → followed ≡ x → walk_on K c ≡ (take_rule K c >>= walk_on K)
        by (ok d) e = walk_goes d e ∙ sym (ap (λ r. because (refused_at c) r >>= walk_on K) e)
        by (stop number) e = walk_stops number e ∙ sym (ap (λ r. because (refused_at c) r >>= walk_on K) e)

-- ---- where a refusal may stand

-- no place of it is past m
unfoldable pub Low : (m : ℕ) → Result Refusal (Unit {0}) → Type 0
Low m (ok t) = Unit
Low m (stop r) = (r.rule ≤ m) × (r.array ≤ m) × (r.stream ≤ m)

module _ (K : Kernel) (rows : row_count K ≤ 24) (m : ℕ) where
  low_here : (c : Place) → c.rule ≤ m → c.array ≤ m → c.stream ≤ m → (r : Result ℕ (Unit {0})) → Low m (at c r)
  unfolding Low at because
  low_here c h a s (ok t) = tt
  low_here c h a s (stop number) = (h, a, s)

  -- n rules more: each takes at most 25 records of the derivation
  pub walk_low : (n : ℕ) (c : Place) → c.rule + 25 * n ≤ m → c.array + n ≤ m → c.stream + n ≤ m → Low m (walk K n c)
  unfolding walk finish
  walk_low zero c h a s = low_here c (omega arith) (omega arith) (omega arith) _
  walk_low (suc n) c h a s = by (leb (length K.derivation) c.rule) (λ d f. walk_low n d (omega (arith, f.rules)) (omega (arith, f.arrays)) (omega (arith, f.streams)))
    where
      onward : (y : Result ℕ Place) → On (GoesFurther K c) (at c y) → ((d : Place) → GoesFurther K c d → Low m (walk K n d)) → Low m (at c y >>= walk K n)
      onward (ok d) l r = unfold at because ◌>>=◌ in r d l.on
      onward (stop number) l r = unfold at because ◌>>=◌ Low in (omega arith, omega arith, omega arith)

      by : (t : Bool) → ((d : Place) → GoesFurther K c d → Low m (walk K n d)) → Low m (elim t as (λ t. Result Refusal (Unit {0})) [ true ↦ finish K c | false ↦ take_rule K c >>= walk K n ])
      by true r = low_here c (omega arith) (omega arith) (omega arith) _
      by false r = unfold take_rule in onward (follow K c (rule (next_rule K c).code) (next_array K c) (next_stream K c)) (taken_further K c) r
