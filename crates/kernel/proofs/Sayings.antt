-- What a record says, from its code; and what reading guarantees of the statement at a place.
use mathlib.Core.Path.{◌≡◌, refl, sym, ap, subst, ◌∙◌}
use mathlib.Core.List.{List}
use Prim.Native.Nat.{ℕ, zero, suc, ◌<◌, ◌≤◌}
use native.Mathlib.Omega.{arith}
use native.Mathlib.Decide.{dec_lt}
use lib.ListN.{length, get_or, get_or-eq_default}
use Rattle.kernel.specs.File.{Rec, form, nothing, sets, copies, works, loads, stores, reads, writes, fors, ifs, elses, ends, operator, set, copy, work, load, store, read, write, Statement, does, for, if, else, end, none, loop_of, sayings, statement}
use Rattle.kernel.specs.Reading.{Scope, Open}
use Rattle.kernel.specs.Guarantees.{StatementFits, Nested, over, then}
use Rattle.kernel.specs.Blocks.{said}

said_by : (r : Rec) (n : ℕ) → r.code ≡ n → statement r ≡ get_or {A = Rec → Statement} sayings n (λ r. none) r
unfolding statement
said_by r n e = ap (λ n. get_or {A = Rec → Statement} sayings n (λ r. none) r) e

module _ (r : Rec) where
  pub says_set : r.code ≡ sets → statement r ≡ does (set r.p (form r))
  unfolding sayings
  says_set e = said_by r 1 e

  pub says_copy : r.code ≡ copies → statement r ≡ does (copy r.p r.q)
  unfolding sayings
  says_copy e = said_by r 2 e

  pub says_work : r.code ≡ works → statement r ≡ does (work (operator (get_or r.x 0 0)) r.p r.q r.k)
  unfolding sayings
  says_work e = said_by r 3 e

  pub says_load : r.code ≡ loads → statement r ≡ does (load r.p r.q (form r))
  unfolding sayings
  says_load e = said_by r 4 e

  pub says_store : r.code ≡ stores → statement r ≡ does (store r.p r.q (form r))
  unfolding sayings
  says_store e = said_by r 5 e

  pub says_read : r.code ≡ reads → statement r ≡ does (read r.p r.q)
  unfolding sayings
  says_read e = said_by r 6 e

  pub says_write : r.code ≡ writes → statement r ≡ does (write r.p r.q)
  unfolding sayings
  says_write e = said_by r 7 e

  pub says_for : r.code ≡ fors → statement r ≡ for (loop_of r)
  unfolding sayings
  says_for e = said_by r 8 e

  pub says_if : r.code ≡ ifs → statement r ≡ if r.p
  unfolding sayings
  says_if e = said_by r 9 e

  pub says_else : r.code ≡ elses → statement r ≡ else
  unfolding sayings
  says_else e = said_by r 10 e

  pub says_end : r.code ≡ ends → statement r ≡ end
  unfolding sayings
  says_end e = said_by r 11 e

-- the other way: the code, from what a record says
abbrev pub Agrees : ℕ → Statement → Type 0
Agrees n (does o) = (1 ≤ n) × (n < 8)
Agrees n (for l) = n ≡ 8
Agrees n (if p) = n ≡ 9
Agrees n else = n ≡ 10
Agrees n end = n ≡ 11
Agrees n none = Unit

row_agrees : (r : Rec) (n : ℕ) → Agrees n (get_or {A = Rec → Statement} sayings n (λ r. none) r)
unfolding sayings
row_agrees r zero = tt
row_agrees r (suc zero) = (omega arith, omega arith)
row_agrees r (suc (suc zero)) = (omega arith, omega arith)
row_agrees r (suc (suc (suc zero))) = (omega arith, omega arith)
row_agrees r (suc (suc (suc (suc zero)))) = (omega arith, omega arith)
row_agrees r (suc (suc (suc (suc (suc zero))))) = (omega arith, omega arith)
row_agrees r (suc (suc (suc (suc (suc (suc zero)))))) = (omega arith, omega arith)
row_agrees r (suc (suc (suc (suc (suc (suc (suc zero))))))) = (omega arith, omega arith)
row_agrees r (suc (suc (suc (suc (suc (suc (suc (suc zero)))))))) = refl
row_agrees r (suc (suc (suc (suc (suc (suc (suc (suc (suc zero))))))))) = refl
row_agrees r (suc (suc (suc (suc (suc (suc (suc (suc (suc (suc zero)))))))))) = refl
row_agrees r (suc (suc (suc (suc (suc (suc (suc (suc (suc (suc (suc zero))))))))))) = refl
row_agrees r (suc (suc (suc (suc (suc (suc (suc (suc (suc (suc (suc (suc n)))))))))))) = tt

pub code_agrees : (r : Rec) (s : Statement) → statement r ≡ s → Agrees r.code s
unfolding statement
code_agrees r s e = subst (Agrees r.code) e (row_agrees r r.code)

-- the statement at a place of a program that reads
pub fits_at : {c : Scope} {os : List Open} {rs : List Rec} → Nested c os rs → (i : ℕ) → i < length rs → StatementFits c (statement (get_or rs i nothing))
fits_at over i h = absurd (no_more h)
  where
    no_more : i < 0 → ⊥
    no_more h = omega arith
fits_at (then f e more) zero h = f
fits_at (then f e more) (suc i) h = fits_at more i (omega arith)

-- a record that has a code stands before the end
pub there_at : (rs : List Rec) (i : ℕ) → 1 ≤ (get_or rs i nothing).code → i < length rs
there_at rs i h = by (dec_lt i (length rs))
  where
    none_there : (n : ℕ) → 1 ≤ n → n ≡ 0 → ⊥
    none_there n h e = omega arith

    by : Dec (i < length rs) → i < length rs
    by (yes l) = l
    by (no n) = absurd (none_there (get_or rs i nothing).code h (ap (λ r. r.code) (get_or-eq_default rs nothing {n = i} (omega arith))))

-- kinds of statements, to tell them apart
unfoldable pub kind : Statement → ℕ
kind (does o) = 0
kind (for l) = 1
kind (if p) = 2
kind else = 3
kind end = 4
kind none = 5

pub unlike : {s t : Statement} → s ≡ t → (kind s ≡ kind t → ⊥) → ⊥
unlike e f = f (ap kind e)

pub said_past : (rs : List Rec) (i : ℕ) → length rs ≤ i → said rs i ≡ none
unfolding statement sayings
said_past rs i h = ap statement (get_or-eq_default rs nothing {n = i} h)

-- where something is said there is a record
pub said_there : (rs : List Rec) (i : ℕ) {s : Statement} → said rs i ≡ s → kind s < 5 → i < length rs
unfolding kind
said_there rs i e k = by (dec_lt i (length rs))
  where
    by : Dec (i < length rs) → i < length rs
    by (yes h) = h
    by (no n) = absurd (omega (arith, ap kind (sym e ∙ said_past rs i (omega arith))))
