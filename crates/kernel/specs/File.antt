-- "The kernel file": its sections, its records, and what a record says.
use Rattle.std.specs.Prelude.{ℕ, Bool, cond, List, [], ◌∷◌, map, get_or, take, drop, eqb, ℤ, pos, negsuc, ◌+ℤ◌, ◌-ℤ◌, ◌*ℤ◌}
use Rattle.std.specs.Int.Signed.{quot_z}
use Rattle.numbers.specs.Words.{signed, equal}
use Rattle.forms.specs.Form.{Form, Loop}

-- "A row of signed 32-bit numbers": here a number is its word, 0 to 2³² − 1, and `signed` gives its sign where that counts. A negative number is a
-- word of 2³¹ or more, outside every range that begins at 0 or 1.

-- "A record is 8 numbers: code, p, q, k, x0, x1, x2, x3"
pub record Rec : Type 0 where
  pub code : ℕ
  pub p : ℕ
  pub q : ℕ
  pub k : ℕ
  pub x : List ℕ

unfoldable pub record_of : List ℕ → Rec
record_of ws = record { code = get_or ws 0 0; p = get_or ws 1 0; q = get_or ws 2 0; k = get_or ws 3 0; x = take 4 (drop 4 ws) }

unfoldable pub numbers : Rec → List ℕ
numbers r = r.code ∷ r.p ∷ r.q ∷ r.k ∷ r.x

-- k and x0 to x3 as an index form
unfoldable pub form : Rec → Form
form r = record { k = signed r.k; x = map signed r.x }

-- what stands past the end of a section: no array, no statement, no rule
abbrev pub nothing : Rec
nothing = record { code = 0; p = 0; q = 0; k = 0; x = 0 ∷ 0 ∷ 0 ∷ 0 ∷ [] }

-- "Sections stand in a fixed order"
pub record Kernel : Type 0 where
  pub registers : ℕ
  pub buffers : ℕ
  pub arrays : List Rec
  pub array_program : List Rec
  pub stream_program : List Rec
  pub derivation : List Rec

-- ---- arrays

-- "code 1 input or 2 output": the two sides
abbrev pub input : ℕ
input = 1

abbrev pub output : ℕ
output = 2

unfoldable pub side_of : Rec → ℕ
side_of a = a.code

unfoldable pub on : ℕ → Rec → Bool
on side a = eqb (side_of a) side

-- a number of an array on that side, 0 for one of the other
unfoldable pub only : ℕ → (Rec → ℕ) → Rec → ℕ
only side n a = cond (on side a) (n a) 0

-- "p length; q first index; k count; x0 step"
abbrev pub length_of : Rec → ℕ
length_of a = a.p

abbrev pub first_of : Rec → ℤ
first_of a = pos a.q

abbrev pub count_of : Rec → ℕ
count_of a = a.k

unfoldable pub step_of : Rec → ℤ
step_of a = signed (get_or a.x 0 0)

-- the index of the order's n-th item, items numbered from 0
unfoldable pub index : Rec → ℕ → ℤ
index a n = first_of a +ℤ step_of a *ℤ pos n

unfoldable pub array : Kernel → ℕ → Rec
array K q = get_or K.arrays q nothing

-- ---- statements

-- their codes
abbrev pub sets : ℕ
sets = 1

abbrev pub copies : ℕ
copies = 2

abbrev pub works : ℕ
works = 3

abbrev pub loads : ℕ
loads = 4

abbrev pub stores : ℕ
stores = 5

abbrev pub reads : ℕ
reads = 6

abbrev pub writes : ℕ
writes = 7

abbrev pub fors : ℕ
fors = 8

abbrev pub ifs : ℕ
ifs = 9

abbrev pub elses : ℕ
elses = 10

abbrev pub ends : ℕ
ends = 11

-- "x0 is 1 add, 2 subtract, 3 multiply, 4 divide"
pub data Operator : Type 0 where
  add subtract multiply divide : Operator

unfoldable pub operator : ℕ → Operator
operator x0 = get_or (divide ∷ add ∷ subtract ∷ multiply ∷ []) x0 divide

-- statements that hold no block; registers are named by their numbers, arrays and streams by theirs
pub data Op : Type 0 where
  set : (p : ℕ) → Form → Op
  copy : (p q : ℕ) → Op
  work : Operator → (p q k : ℕ) → Op
  load : (p q : ℕ) → Form → Op
  store : (p q : ℕ) → Form → Op
  read : (p q : ℕ) → Op
  write : (p q : ℕ) → Op

pub data Statement : Type 0 where
  does : Op → Statement
  for : Loop → Statement
  if : (p : ℕ) → Statement
  else end none : Statement

-- "(q − p) / k a whole number": that number, or 0
unfoldable pub whole_steps : ℤ → ℤ → ℕ
whole_steps d s = elim (quot_z d s) [ pos n ↦ cond (equal (pos n *ℤ s) d) n 0 | negsuc n ↦ 0 ]

-- "for: first p, limit q, step k"
unfoldable pub loop_of : Rec → Loop
loop_of r = record {
  first = signed r.p;
  step = signed r.k;
  passes = whole_steps (signed r.q -ℤ signed r.p) (signed r.k);
}

-- the table of statements, by code from 0
unfoldable pub sayings : List (Rec → Statement)
sayings =
    (λ r. none)
    ∷ (λ r. does (set r.p (form r)))
    ∷ (λ r. does (copy r.p r.q))
    ∷ (λ r. does (work (operator (get_or r.x 0 0)) r.p r.q r.k))
    ∷ (λ r. does (load r.p r.q (form r)))
    ∷ (λ r. does (store r.p r.q (form r)))
    ∷ (λ r. does (read r.p r.q))
    ∷ (λ r. does (write r.p r.q))
    ∷ (λ r. for (loop_of r))
    ∷ (λ r. if r.p)
    ∷ (λ r. else)
    ∷ (λ r. end)
    ∷ []

-- what a record says; one with a code out of range says nothing
unfoldable pub statement : Rec → Statement
statement r = get_or {A = Rec → Statement} sayings r.code (λ r. none) r

-- ---- the derivation

-- codes of its records: rules from the first to the last, and the two kinds of hold rows
abbrev pub first_rule : ℕ
first_rule = 1

abbrev pub last_rule : ℕ
last_rule = 10

abbrev pub position_row : ℕ
position_row = 11

abbrev pub buffer_row : ℕ
buffer_row = 12
