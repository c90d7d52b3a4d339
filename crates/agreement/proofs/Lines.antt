-- Laws of the table's lines: what comes of a line is one thing, a line that is taken refuses nothing, and where its numbers rise the first that does not
-- hold has the lowest. A row of tests in a line's order, each of which says what is asked there, answers as the line does.
use mathlib.Core.Path.{◌≡◌, refl, sym, subst, ◌∙◌}
use mathlib.Core.Bool.{Bool, true, false, false≢true}
use mathlib.Core.Logic.{inl, inr}
use Prim.Native.Nat.{ℕ, ◌≤◌}
use native.Mathlib.Omega.{arith}
use Rattle.numbers.specs.Result.{Result, ok, stop, ◌>>=◌, need}
use Rattle.kernel.specs.Rules.{After, Line, ◌unless◌then◌, gives, never, Takes, Refuses, RefusesFirst}

-- ---- taken or refused

pub takes_one : (l : Line) {d e : After} → Takes l d → Takes l e → d ≡ e
unfolding Takes
takes_one (n unless what then l) (w, t) (v, u) = takes_one l t u
takes_one (gives d) t u = sym t ∙ u
takes_one (never n) t u = absurd t

pub taken_not_refused : (l : Line) (e : After) (n : ℕ) → Takes l e → Refuses l n → ⊥
unfolding Takes Refuses
taken_not_refused (m unless what then l) e n (w, t) (inl (no_way, z)) = no_way w
taken_not_refused (m unless what then l) e n (w, t) (inr r) = taken_not_refused l e n t r
taken_not_refused (gives d) e n t r = r
taken_not_refused (never m) e n t r = t

pub first_refuses : (l : Line) (n : ℕ) → RefusesFirst l n → Refuses l n
unfolding RefusesFirst Refuses
first_refuses (m unless what then l) n (inl h) = inl h
first_refuses (m unless what then l) n (inr (w, r)) = inr (first_refuses l n r)
first_refuses (gives d) n r = r
first_refuses (never m) n r = r

-- ---- the lowest number

-- the line's numbers rise from m on
unfoldable pub Rising : (m : ℕ) → Line → Type 0
Rising m (n unless what then l) = (m ≤ n) × Rising n l
Rising m (gives d) = Unit
Rising m (never n) = m ≤ n

not_lower : (m : ℕ) (l : Line) (n : ℕ) → Rising m l → Refuses l n → m ≤ n
unfolding Rising Refuses
not_lower m (k unless what then l) n (h, up) (inl (no_way, z)) = omega arith
not_lower m (k unless what then l) n (h, up) (inr r) = let g = not_lower k l n up r in omega arith
not_lower m (gives d) n up r = absurd r
not_lower m (never k) n up r = omega arith

pub first_lowest : (m : ℕ) (l : Line) (n k : ℕ) → Rising m l → RefusesFirst l n → Refuses l k → n ≤ k
unfolding Rising RefusesFirst Refuses
first_lowest m (j unless what then l) n k (h, up) (inl (no_way, z)) (inl (no_way', z')) = omega arith
first_lowest m (j unless what then l) n k (h, up) (inl (no_way, z)) (inr r) = let g = not_lower j l k up r in omega arith
first_lowest m (j unless what then l) n k (h, up) (inr (w, f)) (inl (no_way, z)) = absurd (no_way w)
first_lowest m (j unless what then l) n k (h, up) (inr (w, f)) (inr r) = first_lowest j l n k up f r
first_lowest m (gives d) n k up f r = absurd f
first_lowest m (never j) n k up f r = omega arith

-- ---- what holds of all that may come of a line

unfoldable pub Leads : (After → Type 0) → Line → Type 0
Leads P (n unless what then l) = what → Leads P l
Leads P (gives e) = P e
Leads P (never n) = Unit

pub taken_leads : (P : After → Type 0) (l : Line) (e : After) → Leads P l → Takes l e → P e
unfolding Leads Takes
taken_leads P (n unless what then l) e h (w, t) = taken_leads P l e (h w) t
taken_leads P (gives d) e h t = subst P t h
taken_leads P (never n) e h t = absurd t

pub leads_all : (P : After → Type 0) → ((e : After) → P e) → (l : Line) → Leads P l
unfolding Leads
leads_all P h (n unless what then l) = λ w. leads_all P h l
leads_all P h (gives e) = h e
leads_all P h (never n) = tt

-- ---- results

-- a value where the line is taken, and then what comes of it; the number of the first that does not hold where it is refused
pub data Answers {A : Type 0} (after : A → After) (l : Line) : Result ℕ A → Type 0 where
  takes : {a : A} → Takes l (after a) → Answers after l (ok a)
  refuses : {n : ℕ} → RefusesFirst l n → Answers after l (stop n)

module _ {A : Type 0} {after : A → After} {n : ℕ} {what : Type 0} where
  -- the test b says whether what is asked holds
  pub tests : {l : Line} (b : Bool) (f : Unit {0} → Result ℕ A) → (b ≡ true → what) → (what → b ≡ true) → (what → Answers after l (f tt)) → Answers after (n unless what then l) (need n b >>= f)
  unfolding Takes RefusesFirst need ◌>>=◌
  tests {l} true f says said rest = more (rest (says refl))
    where
      more : {r : Result ℕ A} → Answers after l r → Answers after (n unless what then l) r
      more (takes t) = takes (says refl, t)
      more (refuses r) = refuses (inr (says refl, r))
  tests false f says said rest = refuses (inl (λ w. false≢true (said w), refl))

-- nothing is tested after it
pub tests_last : {n : ℕ} {what : Type 0} {e : After} (b : Bool) → (b ≡ true → what) → (what → b ≡ true) → Answers {A = Unit {0}} (λ t. e) (n unless what then gives e) (need n b)
unfolding Takes RefusesFirst need
tests_last true says said = takes (says refl, refl)
tests_last false says said = refuses (inl (λ w. false≢true (said w), refl))
