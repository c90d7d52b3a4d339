-- What holds of a result where it is a value: `On P m`, and how it goes through `do`.
use Rattle.std.proofs.Common.{◌≡◌, Bool, true, false, refl, subst}
use Rattle.numbers.specs.Result.{Result, ok, stop, ◌>>=◌, need, because}

abbrev Holds {ℓ} : {E A : Type 0} → (A → Type ℓ) → Result E A → Type ℓ
Holds P (ok a) = P a
Holds P (stop e) = Unit

-- a record, so that its parts can be inferred
pub record On {ℓ} {E A : Type 0} (P : A → Type ℓ) (m : Result E A) : Type ℓ where
  pub on : Holds P m

pub on_ok {ℓ} : {E A : Type 0} {P : A → Type ℓ} {a : A} → P a → On {E = E} P (ok a)
on_ok h = record { on = h }

pub on_stop {ℓ} : {E A : Type 0} {P : A → Type ℓ} {e : E} → On P (stop e)
on_stop = record { on = tt }

pub on_need : {E : Type 0} (e : E) (b : Bool) → On (λ t. b ≡ true) (need e b)
unfolding need
on_need e true = on_ok refl
on_need e false = on_stop

pub on_then {ℓ κ} : {E A B : Type 0} {P : A → Type ℓ} {Q : B → Type κ} {m : Result E A} (f : A → Result E B) → On P m → ((a : A) → P a → On Q (f a)) → On Q (m >>= f)
unfolding ◌>>=◌
on_then {m = ok a} f h k = k a h.on
on_then {m = stop e} f h k = on_stop

pub on_map {ℓ κ} : {E A : Type 0} {P : A → Type ℓ} {Q : A → Type κ} {m : Result E A} → ((a : A) → P a → Q a) → On P m → On Q m
on_map {m = ok a} h p = on_ok (h a p.on)
on_map {m = stop e} h p = on_stop

pub on_because {ℓ} : {E F A : Type 0} {P : A → Type ℓ} (g : E → F) {m : Result E A} → On P m → On P (because g m)
unfolding because
on_because g {m = ok a} h = on_ok h.on
on_because g {m = stop e} h = on_stop

pub on_any {ℓ} : {E A : Type 0} {P : A → Type ℓ} {m : Result E A} → ((a : A) → P a) → On P m
on_any {m = ok a} h = on_ok (h a)
on_any {m = stop e} h = on_stop

-- nothing asked of the value
pub whatever : {E A : Type 0} {m : Result E A} → On (λ a. Unit {0}) m
whatever = on_any (λ a. tt)

-- that it is this value
pub on_self : {E A : Type 0} (m : Result E A) → On (λ a. m ≡ ok a) m
on_self (ok a) = on_ok refl
on_self (stop e) = on_stop

-- of the value that it is
pub on_at {ℓ} : {E A : Type 0} {P : A → Type ℓ} {m : Result E A} {a : A} → On P m → m ≡ ok a → P a
on_at {P} h e = (subst (λ r. On P r) e h).on
