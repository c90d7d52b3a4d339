-- A value, or a stop with its reason: the one shape of reading, checking and running.
use Rattle.std.specs.Prelude.{Bool, true, false}

pub data Result (E A : Type 0) : Type 0 where
  ok : A → Result E A
  stop : E → Result E A

-- what follows waits in its λ until there is a value; `do` is written with it
infixl 10 ◌>>=◌
unfoldable pub ◌>>=◌ : {E A B : Type 0} → Result E A → (A → Result E B) → Result E B
ok a >>= f = f a
stop e >>= f = stop e

-- go on where the test holds, else stop with e
unfoldable pub need : {E : Type 0} → E → Bool → Result E (Unit {0})
need e true = ok tt
need e false = stop e

-- the same, with what is made of the reason
unfoldable pub because : {E F A : Type 0} → (E → F) → Result E A → Result F A
because f (ok a) = ok a
because f (stop e) = stop (f e)
