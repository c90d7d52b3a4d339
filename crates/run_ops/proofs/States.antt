-- The machine's state, as the code keeps it: what a register gives and takes, and how a statement ends or sticks.
use Rattle.std.specs.Prelude.{Option, Some, None, Result, Ok, Err}
use Rattle.std.specs.Option.{ok_or}
use Rattle.std.specs.Result.{IsErrAnd}
use Prim.Native.Nat.{ℕ, zero, suc, ◌<◌}
use mathlib.Core.Path.{◌≡◌, refl, sym, ap, ◌∙◌}
use mathlib.Core.List.{List, [], ◌∷◌, map}
use mathlib.Core.Option.{some}
use native.Mathlib.Omega.{arith}
use lib.ListN
use lib.ListN.{length, get_or, get_or-map}
use Rattle.numbers.specs.Result as Answer
use Rattle.numbers.specs.Result.{ok, stop, ◌>>=◌, because}
use Rattle.kernel.specs.declared.refusals.Reason.{Reason}
use Rattle.kernel.specs.declared.refusals.Reason.TheVariants.{Unset}
use Rattle.kernel.specs.Named.{reason}
use Rattle.kernel.specs.File.{Op}
use Rattle.kernel.specs.Machine.{Layout, Counters, word, get, put, perform, stuck, step}
use Rattle.kernel.specs.Machine as Machine
use Rattle.run_ops.specs.declared.State.{State}
use Rattle.run_ops.specs.States.{known, state, worked, stopped}

-- ---- one step of a `do`

module _ {A B : Type 0} {m : Answer.Result ℕ A} (f : A → Answer.Result ℕ B) where
  pub goes_on : {a : A} {r : Answer.Result ℕ B} → m ≡ ok a → f a ≡ r → (m >>= f) ≡ r
  unfolding ◌>>=◌
  goes_on h k = ap (λ m. m >>= f) h ∙ k

  pub stops : {reason : ℕ} → m ≡ stop reason → (m >>= f) ≡ stop reason
  unfolding ◌>>=◌
  stops h = ap (λ m. m >>= f) h

module _ {A : Type 0} {m : Answer.Result ℕ A} where
  -- what the code went on with, and the reason for which it left
  pub given : (x : A) → worked (Ok x) ≡ m → m ≡ ok x
  unfolding worked
  given x e = sym e

  pub refused : (why : Reason) → worked (Err why) ≡ m → m ≡ stop (reason why)
  unfolding worked
  refused why e = sym e

-- ---- a statement

module _ (e : Layout) (n : ℕ) (o : Op) (c : Counters) (s : Machine.State) where
  pub ends : {s' : Machine.State} → perform e c.values o s ≡ ok s' → stopped (Ok tt) n s' ≡ step e n o c s
  unfolding step because stopped
  ends h = sym (ap (because (λ reason. stuck reason n s)) h)

  pub sticks : (r : Result Unit Reason) (why : Reason) → IsErrAnd r (λ y. y ≡ why) → perform e c.values o s ≡ stop (reason why) → stopped r n s ≡ step e n o c s
  unfolding step because stopped
  sticks (Ok t) why z h = absurd z
  sticks (Err y) why z h = ap (λ y. stop (stuck (reason y) n s)) z ∙ sym (ap (because (λ reason. stuck reason n s)) h)

-- ---- registers

known_at : (rs : List (Option ℕ)) (p : ℕ) → p < length rs → get_or (map known rs) p (some 0) ≡ known (get_or rs p None)
unfolding known
known_at [] p h = absurd (omega arith)
known_at (r ∷ rs) zero h = refl
known_at (r ∷ rs) (suc p) h = known_at rs p (omega arith)

known_set : (rs : List (Option ℕ)) (p v : ℕ) → ListN.set (map known rs) p (some v) ≡ map known (ListN.set rs p (Some v))
unfolding known
known_set [] p v = refl
known_set (r ∷ rs) zero v = refl
known_set (r ∷ rs) (suc p) v = ap (λ l. known r ∷ l) (known_set rs p v)

taken : (o : Option ℕ) → worked (ok_or o Unset) ≡ word (known o)
unfolding word worked known reason
taken None = refl
taken (Some w) = refl

pub got : (s : State) (ws : List ℕ) (p : ℕ) → p < length s.registers → worked (ok_or (get_or s.registers p None) Unset) ≡ get p (state s ws)
unfolding get
got s ws p h = taken (get_or s.registers p None) ∙ ap word (sym (known_at s.registers p h))

pub put_there : (s : State) (ws : List ℕ) (p v : ℕ) → put p v (state s ws) ≡ state (record { registers = ListN.set s.registers p (Some v); places = s.places }) ws
unfolding put
put_there s ws p v = ap (λ l. record { registers = l; places = s.places; output = ws }) (known_set s.registers p v)
