-- A loop keeps the tie: the hold rows, with the counter put at a pass's value, are what ties the two runs before that pass.
use mathlib.Core.Path.{◌≡◌, refl, sym, ap, subst, ◌∙◌}
use mathlib.Core.List.{List, [], ◌∷◌, ◌++◌, append_assoc}
use Prim.Native.Nat.{ℕ, zero, suc, ◌+◌, ◌<◌}
use native.Mathlib.Omega.{arith}
use native.Mathlib.Numerals.{add-one}
use lib.ListN.{length, set, replicate, length-append, length-replicate, length-set}
use lib.Seq.{set-append_seam, set-set, get_or-set_same}
use lib.IntN.{ℤ, pos, ◌+ℤ◌, ◌*ℤ◌, +ℤ_idl, *ℤ-zero, suc_ℤ-*ℤ, *ℤ_comm}
use lib.Signed.{◌<ℤ◌}
use Rattle.numbers.specs.Result.{Result, ◌>>=◌}
use Rattle.numbers.proofs.Ring.{ring}
use Rattle.forms.specs.Form.{Form, terms, value, put_at, moved_by, Loop, counter, limit, Choice, none, pass, Below}
use Rattle.forms.proofs.Same.{equal_values}
use Rattle.forms.proofs.Values.{value_put_at, value_moved_by}
use Rattle.kernel.specs.File.{Kernel}
use Rattle.kernel.specs.Machine.{Layout, State, Counters, Stuck, in_pass, repeat}
use Rattle.kernel.specs.Ledger.{Ledger, each}
use Rattle.kernel.specs.Derivation.{Opened, in_for, loops}
use Rattle.kernel.specs.Rules.{RowsTrue}
use Rattle.agreement.proofs.Sim.{Sim, Related, both_end, both_stick, sim_turn}
use Rattle.agreement.proofs.Turns.{OneValue, rows_values, turned_values, plain_values}

-- ---- results of both runs, one after the other

pub then_both : {K : Kernel} {e : Layout} {L M : Ledger} {cs ds : List ℤ} {r r' : Result Stuck State} (f g : State → Result Stuck State)
    → Related K e L cs r r' → ((x y : State) → Sim K e L cs x y → Related K e M ds (f x) (g y)) → Related K e M ds (r >>= f) (r' >>= g)
unfolding ◌>>=◌
then_both f g (both_end {x} {y} s) h = h x y s
then_both f g (both_stick w o) h = both_stick w o

pub turn_both : {K : Kernel} {e : Layout} {L M : Ledger} {cs ds : List ℤ} {r r' : Result Stuck State}
    → Related K e L cs r r' → ((x y : State) → Sim K e L cs x y → Sim K e M ds x y) → Related K e M ds r r'
turn_both (both_end {x} {y} s) h = both_end (h x y s)
turn_both (both_stick w o) h = both_stick w o

-- ---- counters

-- the machine's counters are a choice of values for the loops open, and 0 after them
pub record Chosen (os : List Opened) (a : Counters) : Type 0 where
  pub values : List ℤ
  pub choice : Choice (loops os) values
  pub zeros : ℕ
  pub counters_are : a.values ≡ values ++ replicate zeros (pos 0)
  pub four : length values + zeros ≡ 4
  pub level_is : a.level ≡ length (loops os)

choice_length : {ls : List Loop} {cs : List ℤ} → Choice ls cs → length cs ≡ length ls
choice_length none = refl
choice_length (pass m h c) = ap suc (choice_length c)

terms_nil : (xs : List ℤ) → terms xs [] ≡ pos 0
unfolding terms
terms_nil [] = refl
terms_nil (x ∷ xs) = refl

terms_only_zeros : (xs : List ℤ) (k : ℕ) → terms xs (replicate k (pos 0)) ≡ pos 0
unfolding terms
terms_only_zeros [] k = refl
terms_only_zeros (x ∷ xs) zero = refl
terms_only_zeros (x ∷ xs) (suc k) = ap (λ z. z +ℤ terms xs (replicate k (pos 0))) (*ℤ-zero x) ∙ +ℤ_idl (terms xs (replicate k (pos 0))) ∙ terms_only_zeros xs k

terms_zeros : (xs cs : List ℤ) (k : ℕ) → terms xs (cs ++ replicate k (pos 0)) ≡ terms xs cs
unfolding terms
terms_zeros xs [] k = terms_only_zeros xs k ∙ sym (terms_nil xs)
terms_zeros [] (c ∷ cs) k = refl
terms_zeros (x ∷ xs) (c ∷ cs) k = ap (λ z. x *ℤ c +ℤ z) (terms_zeros xs cs k)

-- the machine's counters give the value at the choice
value_here : {os : List Opened} {a : Counters} (f : Form) (c : Chosen os a) → value f a.values ≡ value f c.values
unfolding value
value_here f c = ap (λ cs. f.k +ℤ terms f.x cs) c.counters_are ∙ ap (λ z. f.k +ℤ z) (terms_zeros f.x c.values c.zeros)

-- what stays below a count over all choices is below it at the machine's counters
pub below_here : {os : List Opened} {a : Counters} (n : ℕ) (f : Form) → Chosen os a → Below (loops os) n f → value f a.values <ℤ pos n
below_here n f c b = subst (λ z. z <ℤ pos n) (sym (value_here f c)) (b.always c.values c.choice)

-- and equal forms have one value there
pub one_value_here : {os : List Opened} {a : Counters} → Chosen os a → OneValue (loops os) a.values
one_value_here c = record { equal_forms = λ f g e. value_here f c ∙ equal_values e c.values c.choice ∙ sym (value_here g c) }

pub counters_four : {os : List Opened} {a : Counters} → Chosen os a → length a.values ≡ 4
counters_four c = ap length c.counters_are ∙ length-append c.values (replicate c.zeros (pos 0)) ∙ omega (arith, length-replicate c.zeros (pos 0), c.four)

choice_more : {ls : List Loop} {cs : List ℤ} (l : Loop) (m : ℕ) → m < l.passes → Choice ls cs → Choice (ls ++ l ∷ []) (cs ++ counter l m ∷ [])
choice_more l m h none = pass m h none
choice_more l m h (pass n k c) = pass n k (choice_more l m h c)

-- in a pass of one more loop
pub chosen_pass : {os : List Opened} {a : Counters} (l : Loop) (rows : Ledger) (m : ℕ) → m < l.passes → length (loops os) < 4 → Chosen os a → Chosen (in_for l rows ∷ os) (in_pass l a m)
unfolding loops
chosen_pass {os} {a} l rows m h low c = by c.zeros c.counters_are c.four
  where
    as_long : length c.values ≡ length (loops os)
    as_long = choice_length c.choice

    by : (k : ℕ) → a.values ≡ c.values ++ replicate k (pos 0) → length c.values + k ≡ 4 → Chosen (in_for l rows ∷ os) (in_pass l a m)
    by zero e f = absurd (omega (arith, as_long))
    by (suc k) e f = record {
      values = c.values ++ counter l m ∷ [];
      choice = choice_more l m h c.choice;
      zeros = k;
      counters_are =
          ap (λ cs. set cs a.level (counter l m)) e
          ∙ ap (λ i. set (c.values ++ pos 0 ∷ replicate k (pos 0)) i (counter l m)) (c.level_is ∙ sym as_long)
          ∙ set-append_seam c.values (pos 0) (replicate k (pos 0)) (counter l m)
          ∙ sym (append_assoc c.values (counter l m ∷ []) (replicate k (pos 0)));
      four = omega (arith, length-append c.values (counter l m ∷ []));
      level_is = ap (λ n. n + 1) c.level_is ∙ sym (length-append (loops os) (l ∷ []));
    }

-- ---- the passes of a loop

counter_next : (l : Loop) (m : ℕ) → counter l m +ℤ l.step ≡ counter l (m + 1)
unfolding counter
counter_next l m = one_more l.first l.step (pos m) ∙ ap (λ z. l.first +ℤ z) (times_one l.step m)
  where
    one_more : (f s p : ℤ) → (f +ℤ s *ℤ p) +ℤ s ≡ f +ℤ (s *ℤ p +ℤ s)
    one_more f s p = simp ring

    times_one : (s : ℤ) (m : ℕ) → s *ℤ pos m +ℤ s ≡ s *ℤ pos (m + 1)
    times_one s m = ap (λ z. z +ℤ s) (*ℤ_comm s (pos m)) ∙ sym (suc_ℤ-*ℤ (pos m) s) ∙ *ℤ_comm (pos (suc m)) s ∙ ap (λ n. s *ℤ pos n) (sym (add-one m))

module _ {K : Kernel} {e : Layout} (l : Loop) (rows M : Ledger) (a : Counters) (level : ℕ) (at_level : a.level ≡ level) (low : level < length a.values)
    (positions : length rows.positions ≡ length K.arrays) (buffers : length rows.buffers ≡ K.buffers)
    {around : List Loop} (one : (m : ℕ) → m < l.passes → OneValue around (in_pass l a m).values)
    (kept : RowsTrue around (each (moved_by level l.step) rows) M)
    (f g : ℕ → State → Result Stuck State)
    (body : (m : ℕ) → m < l.passes → (x y : State) → Sim K e rows (in_pass l a m).values x y → Related K e M (in_pass l a m).values (f m x) (g m y)) where
  -- before pass m
  abbrev Before : ℕ → State → State → Type 0
  Before m x y = Sim K e (each (put_at level (counter l m)) rows) a.values x y

  in_counters : (m : ℕ) → (in_pass l a m).values ≡ set a.values level (counter l m)
  in_counters m = ap (λ i. set a.values i (counter l m)) at_level

  enters : (m : ℕ) (x y : State) → Before m x y → Sim K e rows (in_pass l a m).values x y
  enters m x y s = sim_turn (plain_values K rows positions buffers (put_at level (counter l m)) a.values (in_pass l a m).values
      (λ h. ap (value h) (in_counters m) ∙ sym (value_put_at level (counter l m) h a.values low))) s

  goes_on : (m : ℕ) → m < l.passes → (x y : State) → Sim K e M (in_pass l a m).values x y → Before (m + 1) x y
  goes_on m more x y s =
      sim_turn (turned_values K rows positions buffers (moved_by level l.step) (put_at level (counter l (m + 1))) (in_pass l a m).values a.values same)
      (sim_turn (rows_values K rows positions buffers (moved_by level l.step) M (in_pass l a m).values (one m more) kept) s)
    where
      same : (h : Form) → value (put_at level (counter l (m + 1)) h) a.values ≡ value (moved_by level l.step h) (in_pass l a m).values
      same h =
          value_put_at level (counter l (m + 1)) h a.values low
          ∙ ap (λ z. value h (set a.values level z)) (sym (counter_next l m))
          ∙ ap (value h) (sym (set-set a.values level (counter l m) (counter l m +ℤ l.step)))
          ∙ ap (λ z. value h (set (set a.values level (counter l m)) level (z +ℤ l.step))) (sym (get_or-set_same a.values level (counter l m) (pos 0) low))
          ∙ sym (value_moved_by level l.step h (set a.values level (counter l m)) (subst (λ n. level < n) (sym (length-set a.values level (counter l m))) low))
          ∙ ap (value (moved_by level l.step h)) (sym (in_counters m))

  pub passes_kept : (n m : ℕ) → m + n ≡ l.passes → (x y : State) → Before m x y → Related K e (each (put_at level (limit l)) rows) a.values (repeat f n m x) (repeat g n m y)
  unfolding repeat limit
  passes_kept zero m z x y s = both_end (subst (λ k. Sim K e (each (put_at level (counter l k)) rows) a.values x y) (omega (arith, z)) s)
  passes_kept (suc n) m z x y s =
      then_both (repeat f n (m + 1)) (repeat g n (m + 1)) (turn_both (body m (omega arith) x y (enters m x y s)) (λ x' y' s'. goes_on m (omega arith) x' y' s'))
      λ x' y' s'. passes_kept n (m + 1) (omega arith) x' y' s'
