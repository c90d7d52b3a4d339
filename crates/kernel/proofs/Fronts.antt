-- What a block of a program that reads begins with, from what its first record says, and where the program reads on after the blocks that it holds: reading goes
-- through a block and has the same blocks open after it. By recursion on the block.
use mathlib.Core.Path.{◌≡◌, refl, sym, subst, ◌∙◌}
use mathlib.Core.List.{List, [], ◌∷◌}
use Prim.Native.Nat.{ℕ, suc, ◌<◌, ◌≤◌}
use native.Mathlib.Omega.{arith}
use native.Mathlib.Decide.{dec_lt}
use lib.Dec.{leb}
use lib.ListN.{length, get_or, drop, drop_of_length-le}
use lib.Seq.{drop-cons}
use borrow.Author.Tests.{leb-true}
use Rattle.numbers.specs.Result.{ok}
use Rattle.numbers.proofs.Results.{On, on_ok, on_need, on_then, on_at}
use Rattle.numbers.proofs.Tests.{each_of}
use Rattle.forms.specs.Form.{Form, Around, Loop}
use Rattle.forms.proofs.Same.{around_says}
use Rattle.kernel.specs.File.{Rec, nothing, Op, set, copy, work, load, store, read, write, Statement, does, for, if, else, end, none, loop_of}
use Rattle.kernel.specs.Reading.{Scope, Open, open_for, open_if, open_else, open_loops, all_passes, opened, after_else, after_end, names, after_op, after}
use Rattle.kernel.specs.Guarantees.{OpFits, LoopFits, StatementFits, Nested, over, then}
use Rattle.kernel.specs.Blocks.{Block, stops, plain, loop, branch, said, StopsAt, at_an_else, at_an_end, past_the_last, IsBlock, row_over, row_plain, row_for, row_if}
use Rattle.kernel.proofs.Sayings.{kind, said_past, said_there, Agrees, code_agrees, says_for, says_if}

-- ---- what a step of the reading says

-- a block may be opened: at most 8 are open then, 4 of them loops, and all their passes are few
pub record Room (os : List Open) : Type 0 where
  pub depth : length os ≤ 8
  pub loops : open_loops os ≤ 4
  pub passes : all_passes os ≤ 65536

-- the counters that a statement names are around it
abbrev pub Names : ℕ → Op → Type 0
Names n (set p f) = Around n f
Names n (copy p q) = Unit
Names n (work o p q k) = Unit
Names n (load p q f) = Around n f
Names n (store p q f) = Around n f
Names n (read p q) = Unit
Names n (write p q) = Unit

pub opened_says : (os : List Open) → On (λ os'. (os' ≡ os) × Room os) (opened os)
unfolding opened
opened_says os =
    on_then _ (on_need _ _) λ t h.
    let u = each_of (leb (length os) 8) (leb (open_loops os) 4 ∷ leb (all_passes os) 65536 ∷ []) h in
    on_ok (refl, record { depth = leb-true (length os) 8 (u 0); loops = leb-true (open_loops os) 4 (u 1); passes = leb-true (all_passes os) 65536 (u 2) })

names_says : (f : Form) (os : List Open) → On (λ os'. (os' ≡ os) × Around (open_loops os) f) (names f os)
unfolding names
names_says f os = on_then _ (on_need _ _) λ t h. on_ok (refl, around_says (open_loops os) f h)

pub op_says : (o : Op) (os : List Open) → On (λ os'. (os' ≡ os) × Names (open_loops os) o) (after_op o os)
unfolding after_op
op_says (set p f) os = names_says f os
op_says (copy p q) os = on_ok (refl, tt)
op_says (work o p q k) os = on_ok (refl, tt)
op_says (load p q f) os = names_says f os
op_says (store p q f) os = names_says f os
op_says (read p q) os = on_ok (refl, tt)
op_says (write p q) os = on_ok (refl, tt)

-- ---- one record

module _ (c : Scope) (rs : List Rec) where
  -- the program reads from record i on
  abbrev pub From : List Open → ℕ → Type 0
  From os i = Nested c os (drop i rs)

  -- past the last record nothing is open
  pub open_there : (i : ℕ) {os : List Open} → From os i → 1 ≤ length os → i < length rs
  open_there i {os} n h = by (dec_lt i (length rs))
    where
      none_open : {os : List Open} → Nested c os [] → 1 ≤ length os → ⊥
      none_open over h = omega arith

      by : Dec (i < length rs) → i < length rs
      by (yes l) = l
      by (no l) = absurd (none_open (subst (Nested c os) (drop_of_length-le rs {i = i} (omega arith)) n) h)

  -- a statement, and the blocks open after it
  record ReadsNext (os : List Open) (i : ℕ) (s : Statement) : Type 0 where
    next : List Open
    fits : StatementFits c s
    moves : after s os ≡ ok next
    more : From next (suc i)

  step_at : (os : List Open) (i : ℕ) → i < length rs → From os i → ReadsNext os i (said rs i)
  step_at os i h n = by (subst (Nested c os) (drop-cons rs i nothing h) n)
    where
      by : {os : List Open} → Nested c os (get_or rs i nothing ∷ drop (suc i) rs) → ReadsNext os i (said rs i)
      by (then {os' = os'} f a m) = record { next = os'; fits = f; moves = a; more = m }

  module _ (i : ℕ) {os : List Open} (n : From os i) where
    reads_next : (s : Statement) → said rs i ≡ s → kind s < 5 → ReadsNext os i s
    reads_next s e k = subst (ReadsNext os i) e (step_at os i (said_there rs i e k) n)

    pub read_plain : {o : Op} → said rs i ≡ does o → OpFits c o × Names (open_loops os) o × From os (suc i)
    unfolding kind after
    read_plain {o} e =
        let t = reads_next (does o) e (omega arith) in
        let (same, names) = on_at (op_says o os) t.moves in
        (t.fits, names, subst (λ os. From os (suc i)) same t.more)

    pub read_for : {l : Loop} → said rs i ≡ for l → LoopFits l × Room (open_for l.passes ∷ os) × From (open_for l.passes ∷ os) (suc i)
    unfolding kind after
    read_for {l} e =
        let t = reads_next (for l) e (omega arith) in
        let (same, room) = on_at (opened_says (open_for l.passes ∷ os)) t.moves in
        (t.fits, room, subst (λ os. From os (suc i)) same t.more)

    pub read_if : {p : ℕ} → said rs i ≡ if p → (p < c.registers) × Room (open_if ∷ os) × From (open_if ∷ os) (suc i)
    unfolding kind after
    read_if {p} e =
        let t = reads_next (if p) e (omega arith) in
        let (same, room) = on_at (opened_says (open_if ∷ os)) t.moves in
        (t.fits, room, subst (λ os. From os (suc i)) same t.more)

  -- an else or end, after which os' are open
  closing : (i : ℕ) {os os' : List Open} (s : Statement) → From os i → said rs i ≡ s → kind s < 5 → after s os ≡ ok os' → From os' (suc i)
  closing i {os'} s n e k a = let t = reads_next i n s e k in subst (λ os. From os (suc i)) (on_at {P = λ os. os ≡ os'} (on_ok refl) (sym a ∙ t.moves)) t.more

  pub read_else : (i : ℕ) {os : List Open} → From (open_if ∷ os) i → said rs i ≡ else → From (open_else ∷ os) (suc i)
  unfolding kind after after_else
  read_else i n e = closing i else n e (omega arith) refl

  pub read_end_for : (i : ℕ) {p : ℕ} {os : List Open} → From (open_for p ∷ os) i → said rs i ≡ end → From os (suc i)
  unfolding kind after after_end
  read_end_for i n e = closing i end n e (omega arith) refl

  pub read_end_if : (i : ℕ) {os : List Open} → From (open_else ∷ os) i → said rs i ≡ end → From os (suc i)
  unfolding kind after after_end
  read_end_if i n e = closing i end n e (omega arith) refl

  -- ---- a block

  pub through : {t : Block} {i j : ℕ} {os : List Open} → IsBlock rs t i j → From os i → From os j
  through (row_over s) n = n
  through (row_plain {i} e r) n = through r (read_plain i n e).2
  through (row_for {i} {e = m} e b x r) n = through r (read_end_for m (through b (read_for i n e).2) x)
  through (row_if {i} {m} {e = l} e a x b y r) n = through r (read_end_if l (through b (read_else m (through a (read_if i n e).2) x)) y)

pub block_low : {rs : List Rec} {t : Block} {i j : ℕ} → IsBlock rs t i j → i ≤ j
block_low (row_over s) = omega arith
block_low (row_plain e r) = let h = block_low r in omega arith
block_low (row_for e b x r) = let h = block_low b in let k = block_low r in omega arith
block_low (row_if e a x b y r) = let g = block_low a in let h = block_low b in let k = block_low r in omega arith

-- records i up to j are the block, and the program reads from i on with these blocks open around
pub record ReadBlock (c : Scope) (rs : List Rec) (t : Block) (os : List Open) (i j : ℕ) : Type 0 where
  pub is : IsBlock rs t i j
  pub reads : From c rs os i

-- ---- what it begins with

pub record PlainFront (c : Scope) (rs : List Rec) (os : List Open) (i j : ℕ) (o : Op) (t : Block) : Type 0 where
  pub rest : Block
  pub is : t ≡ plain i o rest
  pub fits : OpFits c o
  pub names : Names (open_loops os) o
  pub more : ReadBlock c rs rest os (suc i) j

pub record LoopFront (c : Scope) (rs : List Rec) (os : List Open) (i j : ℕ) (l : Loop) (t : Block) : Type 0 where
  pub body : Block
  pub rest : Block
  pub is : t ≡ loop i l body rest
  pub fits : LoopFits l
  pub room : Room (open_for l.passes ∷ os)
  pub end_at : ℕ
  pub inner : ReadBlock c rs body (open_for l.passes ∷ os) (suc i) end_at
  pub ends : said rs end_at ≡ end
  pub more : ReadBlock c rs rest os (suc end_at) j

pub record BranchFront (c : Scope) (rs : List Rec) (os : List Open) (i j p : ℕ) (t : Block) : Type 0 where
  pub first : Block
  pub second : Block
  pub rest : Block
  pub is : t ≡ branch i p first second rest
  pub fits : p < c.registers
  pub room : Room (open_if ∷ os)
  pub else_at : ℕ
  pub inner : ReadBlock c rs first (open_if ∷ os) (suc i) else_at
  pub elses : said rs else_at ≡ else
  pub end_at : ℕ
  pub other : ReadBlock c rs second (open_else ∷ os) (suc else_at) end_at
  pub ends : said rs end_at ≡ end
  pub more : ReadBlock c rs rest os (suc end_at) j

-- by what its first record says
abbrev Front : Scope → List Rec → List Open → (i j : ℕ) → Block → Statement → Type 0
Front c rs os i j t (does o) = PlainFront c rs os i j o t
Front c rs os i j t (for l) = LoopFront c rs os i j l t
Front c rs os i j t (if p) = BranchFront c rs os i j p t
Front c rs os i j t else = (t ≡ stops i) × (i ≡ j)
Front c rs os i j t end = (t ≡ stops i) × (i ≡ j)
Front c rs os i j t none = (t ≡ stops i) × (i ≡ j)

front : (c : Scope) (rs : List Rec) {t : Block} {os : List Open} {i j : ℕ} → IsBlock rs t i j → From c rs os i → Front c rs os i j t (said rs i)
front c rs {t} {os} {i} {j} (row_over s) n = by s
  where
    by : StopsAt rs i → Front c rs os i i (stops i) (said rs i)
    by (at_an_else e) = subst (Front c rs os i i (stops i)) (sym e) (refl, refl)
    by (at_an_end e) = subst (Front c rs os i i (stops i)) (sym e) (refl, refl)
    by (past_the_last h) = subst (Front c rs os i i (stops i)) (sym (said_past rs i h)) (refl, refl)
front c rs {t} {os} {i} {j} (row_plain {rest} e r) n =
    let (fits, names, more) = read_plain c rs i n e in
    subst (Front c rs os i j t) (sym e) (record { rest = rest; is = refl; fits = fits; names = names; more = record { is = r; reads = more } })
front c rs {t} {os} {i} {j} (row_for {e = m} {body} {rest} e b x r) n =
    let (fits, room, inner) = read_for c rs i n e in
    subst (Front c rs os i j t) (sym e) (record {
      body = body;
      rest = rest;
      is = refl;
      fits = fits;
      room = room;
      end_at = m;
      inner = record { is = b; reads = inner };
      ends = x;
      more = record { is = r; reads = read_end_for c rs m (through c rs b inner) x };
    })
front c rs {t} {os} {i} {j} (row_if {m} {e = last} {first} {second} {rest} e a x b y r) n =
    let (fits, room, inner) = read_if c rs i n e in
    let other = read_else c rs m (through c rs a inner) x in
    subst (Front c rs os i j t) (sym e) (record {
      first = first;
      second = second;
      rest = rest;
      is = refl;
      fits = fits;
      room = room;
      else_at = m;
      inner = record { is = a; reads = inner };
      elses = x;
      end_at = last;
      other = record { is = b; reads = other };
      ends = y;
      more = record { is = r; reads = read_end_if c rs last (through c rs b other) y };
    })

module _ {c : Scope} {rs : List Rec} {t : Block} {os : List Open} {i j : ℕ} (b : ReadBlock c rs t os i j) where
  says : {s : Statement} → said rs i ≡ s → Front c rs os i j t s
  says e = subst (Front c rs os i j t) e (front c rs b.is b.reads)

  pub front_plain : {o : Op} → said rs i ≡ does o → PlainFront c rs os i j o t
  front_plain e = says e

  pub front_loop : {l : Loop} → said rs i ≡ for l → LoopFront c rs os i j l t
  front_loop e = says e

  pub front_branch : {p : ℕ} → said rs i ≡ if p → BranchFront c rs os i j p t
  front_branch e = says e

  pub front_stop : StopsAt rs i → (t ≡ stops i) × (i ≡ j)
  front_stop (at_an_else e) = says e
  front_stop (at_an_end e) = says e
  front_stop (past_the_last h) = says (said_past rs i h)

-- ---- the same, by the record's code

module _ (c : Scope) (rs : List Rec) (os : List Open) (i : ℕ) (h : i < length rs) (n : From c rs os i) where
  abbrev code : ℕ
  code = (get_or rs i nothing).code

  abbrev agrees : (s : Statement) → said rs i ≡ s → Agrees code s
  agrees s e = code_agrees (get_or rs i nothing) s e

  pub plain_said : (code ≡ 8 → ⊥) → (code ≡ 9 → ⊥) → code < 10 → (o : Op) × (said rs i ≡ does o)
  plain_said x y z = by (said rs i) refl (step_at c rs os i h n).fits
    where
      by : (s : Statement) → said rs i ≡ s → StatementFits c s → (o : Op) × (said rs i ≡ does o)
      by (does o) e f = (o, e)
      by (for l) e f = absurd (x (agrees (for l) e))
      by (if p) e f = absurd (y (agrees (if p) e))
      by else e f = absurd (omega (arith, agrees else e))
      by end e f = absurd (omega (arith, agrees end e))
      by none e f = absurd f

  stop_said : 10 ≤ code → StopsAt rs i
  stop_said z = by (said rs i) refl (step_at c rs os i h n).fits
    where
      by : (s : Statement) → said rs i ≡ s → StatementFits c s → StopsAt rs i
      by (does o) e f = absurd (omega (arith, (agrees (does o) e).1))
      by (for l) e f = absurd (omega (arith, agrees (for l) e))
      by (if p) e f = absurd (omega (arith, agrees (if p) e))
      by else e f = at_an_else e
      by end e f = at_an_end e
      by none e f = absurd f

module _ {c : Scope} {rs : List Rec} {t : Block} {os : List Open} {i j : ℕ} (b : ReadBlock c rs t os i j) where
  abbrev r : Rec
  r = get_or rs i nothing

  pub plain_at : i < length rs → (r.code ≡ 8 → ⊥) → (r.code ≡ 9 → ⊥) → r.code < 10 → (o : Op) × (said rs i ≡ does o) × PlainFront c rs os i j o t
  plain_at h x y z = let (o, e) = plain_said c rs os i h b.reads x y z in (o, e, front_plain b e)

  pub loop_at : r.code ≡ 8 → LoopFront c rs os i j (loop_of r) t
  loop_at z = front_loop b (says_for r z)

  pub branch_at : r.code ≡ 9 → BranchFront c rs os i j r.p t
  branch_at z = front_branch b (says_if r z)

  pub stop_at : i < length rs → 10 ≤ r.code → (t ≡ stops i) × (i ≡ j)
  stop_at h z = front_stop b (stop_said c rs os i h b.reads z)
