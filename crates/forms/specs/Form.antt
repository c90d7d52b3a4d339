-- Index forms, and the loops whose counters they name.
use Rattle.std.specs.Prelude.{ℕ, ◌-◌, ◌<◌, ◌≤◌, ◌≡◌, Bool, cond, ◌&&◌, List, [], ◌∷◌, map, get_or, drop, set, replicate, ℤ, pos, ◌+ℤ◌, ◌*ℤ◌, ◌<ℤ◌}
use Rattle.std.specs.Int.Signed.{le_z, lt_z}
use Rattle.numbers.specs.Words.{equal}
use Rattle.numbers.specs.Lists.{every, alike}

-- "An index form is k plus x0..x3 times the counters of loop levels 0 to 3"
pub record Form : Type 0 where
  pub k : ℤ
  pub x : List ℤ

-- the value at these counters, level 0 first
unfoldable pub terms : List ℤ → List ℤ → ℤ
terms [] cs = pos 0
terms (x ∷ xs) [] = pos 0
terms (x ∷ xs) (c ∷ cs) = x *ℤ c +ℤ terms xs cs

unfoldable pub value : Form → List ℤ → ℤ
value f cs = f.k +ℤ terms f.x cs

abbrev pub constant : ℤ → Form
constant n = record { k = n; x = replicate 4 (pos 0) }

-- the coefficient of a loop level
unfoldable pub coefficient : ℕ → Form → ℤ
coefficient level f = get_or f.x level (pos 0)

-- "nonzero terms only for loops around it", of which there are n; as a statement and as a test
pub record Around (n : ℕ) (f : Form) : Type 0 where
  pub beyond : (level : ℕ) → n ≤ level → coefficient level f ≡ pos 0

unfoldable pub around : ℕ → Form → Bool
around n f = every (equal (pos 0)) (drop n f.x)

-- ---- forms made from forms

-- "position + 1"
unfoldable pub plus_one : Form → Form
plus_one f = record { k = f.k +ℤ pos 1; x = f.x }

-- "first + step × position"
unfoldable pub along : ℤ → ℤ → Form → Form
along first step f = record { k = first +ℤ step *ℤ f.k; x = map (λ x. step *ℤ x) f.x }

-- "with the counter put at" c
unfoldable pub put_at : ℕ → ℤ → Form → Form
put_at level c f = record { k = f.k +ℤ coefficient level f *ℤ c; x = set f.x level (pos 0) }

-- "with counter + step"
unfoldable pub moved_by : ℕ → ℤ → Form → Form
moved_by level step f = record { k = f.k +ℤ coefficient level f *ℤ step; x = f.x }

-- ---- loops

-- "A loop's counter takes first, first + step, and so on": this many values
pub record Loop : Type 0 where
  pub first : ℤ
  pub step : ℤ
  pub passes : ℕ

-- the counter in a pass, passes numbered from 0
unfoldable pub counter : Loop → ℕ → ℤ
counter l pass = l.first +ℤ l.step *ℤ pos pass

-- "up to but not including limit"
unfoldable pub limit : Loop → ℤ
limit l = counter l l.passes

unfoldable pub last : Loop → ℤ
last l = counter l (l.passes - 1)

-- "some choice of counter values, each from its loop", level 0 first
pub data Choice : List Loop → List ℤ → Type 0 where
  none : Choice [] []
  pass : {l : Loop} {ls : List Loop} {cs : List ℤ} (m : ℕ) → m < l.passes → Choice ls cs → Choice (l ∷ ls) (counter l m ∷ cs)

-- "Two index forms are equal when all five numbers are equal", whatever loops are around
pub record Equal (around : List Loop) (f g : Form) : Type 0 where
  pub all_five : f ≡ g

-- the same as a test
unfoldable pub same : (around : List Loop) → Form → Form → Bool
same around f g = equal f.k g.k && alike equal f.x g.x

-- no choice of counter values brings the form to n or above
pub record Below (ls : List Loop) (n : ℕ) (f : Form) : Type 0 where
  pub always : (cs : List ℤ) → Choice ls cs → value f cs <ℤ pos n

-- ---- the same, by reckoning: every loop is tried at its two ends

unfoldable pub larger : ℤ → ℤ → ℤ
larger a b = cond (le_z a b) b a

unfoldable pub most : List ℤ → List Loop → ℤ
most [] ls = pos 0
most (x ∷ xs) [] = pos 0
most (x ∷ xs) (l ∷ ls) = larger (x *ℤ l.first) (x *ℤ last l) +ℤ most xs ls

-- the largest value over all choices
unfoldable pub largest : List Loop → Form → ℤ
largest ls f = f.k +ℤ most f.x ls

unfoldable pub below : List Loop → ℕ → Form → Bool
below ls n f = lt_z (largest ls f) (pos n)
