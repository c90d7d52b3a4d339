-- Looking through the records for a block's end. What holds at each turn: `d` elses and ends come before the one sought, each of which ends a block that begins
-- after the one before it; a for puts one more of them before it, an if two, and an else or end takes one away.
use Prim.Native.Nat.{ℕ, zero, suc, ◌+◌, ◌-◌, ◌≤◌, ◌<◌}
use Rattle.std.specs.Prelude.{Err}
use mathlib.Core.Path.{◌≡◌, sym, ap, subst, ◌∙◌}
use mathlib.Core.Bool.{Bool, true, false, cond}
use mathlib.Core.List.{List}
use native.Mathlib.Omega.{arith}
use native.Mathlib.Decide.{dec_lt, ℕ_discrete}
use native.Mathlib.Nat.{add-zero}
use lib.Dec.{eqb, leb}
use lib.ListN.{length, get_or, drop, length-drop}
use lib.Seq.{get_or-drop}
use borrow.Author.Tests.{eq-eqb, ne_eqb, le-leb, lt-leb}
use Rattle.kernel.specs.File.{Rec, nothing, statement}
use Rattle.kernel.specs.Named.{coded, no_code}
use Rattle.kernel.specs.Reading.{Scope, Open}
use Rattle.kernel.specs.Guarantees.{StatementFits, InBlock}
use Rattle.kernel.specs.Blocks.{Block}
use Rattle.kernel.specs.Trees.{tree_at, stop_of}
use Rattle.kernel.proofs.Named.{says_nothing}
use Rattle.kernel.proofs.Sayings.{fits_at}
use Rattle.kernel.proofs.Fronts.{open_there, through, block_low, ReadBlock, plain_at, loop_at, branch_at, stop_at}
use Rattle.kernel.proofs.Trees.{block_at}
use Rattle.run_ends.specs.View.{depth_after}

-- ---- what is to be passed over, by code

module _ (d code : ℕ) where
  abbrev by_tests : Bool → Bool → Bool → ℕ
  by_tests a b e = cond a (d + 1) (cond b (d + 2) (cond e (d - 1) d))

  pub depth_after_plain : (code ≡ 8 → ⊥) → (code ≡ 9 → ⊥) → code < 10 → depth_after d code ≡ d
  unfolding depth_after
  depth_after_plain u v h = λ x. by_tests (ne_eqb code 8 u x) (ne_eqb code 9 v x) (lt-leb 10 code h x)

  pub depth_after_for : code ≡ 8 → depth_after d code ≡ d + 1
  unfolding depth_after
  depth_after_for h = ap (λ t. by_tests t (eqb code 9) (leb 10 code)) (eq-eqb code 8 h)

  pub depth_after_if : code ≡ 9 → depth_after d code ≡ d + 2
  unfolding depth_after
  depth_after_if h = λ x. by_tests (ne_eqb code 8 (omega arith) x) (eq-eqb code 9 h x) (leb 10 code)

  pub depth_after_closing : 10 ≤ code → depth_after d code ≡ d - 1
  unfolding depth_after
  depth_after_closing h = λ x. by_tests (ne_eqb code 8 (omega arith) x) (ne_eqb code 9 (omega arith) x) (le-leb 10 code h x)

pub depth_after_most : (d code : ℕ) → depth_after d code ≤ d + 2
unfolding depth_after
depth_after_most d code = by (eqb code 8) (eqb code 9) (leb 10 code)
  where
    by : (a b e : Bool) → by_tests d code a b e ≤ d + 2
    by true b e = omega arith
    by false true e = omega arith
    by false false true = omega arith
    by false false false = omega arith

-- ---- the blocks ahead

module _ (rs : List Rec) where
  -- a block from record j up to record m
  record Row (j m : ℕ) : Type 0 where
    scope : Scope
    opens : List Open
    block : Block
    is : ReadBlock scope rs block opens j m

  -- d elses and ends come before the one at record e
  pub Ahead : (d j e : ℕ) → Type 0
  Ahead zero j e = Row j e
  Ahead (suc d) j e = (m : ℕ) × Row j m × Ahead d (suc m) e

  ahead_low : (d j e : ℕ) → Ahead d j e → j ≤ e
  unfolding Ahead
  ahead_low zero j e h = block_low h.is.is
  ahead_low (suc d) j e (m, h, more) = omega (arith, block_low h.is.is, ahead_low d (suc m) e more)

  first_row : (d j e : ℕ) → Ahead d j e → (m : ℕ) × Row j m
  unfolding Ahead
  first_row zero j e h = (e, h)
  first_row (suc d) j e (m, h, more) = (m, h)

  -- the first block made shorter at its front, or taken apart
  past_plain : (d j e : ℕ) → ((m : ℕ) → Row j m → Row (suc j) m) → Ahead d j e → Ahead d (suc j) e
  unfolding Ahead
  past_plain zero j e f h = f e h
  past_plain (suc d) j e f (m, h, more) = (m, f m h, more)

  past_for : (d j e : ℕ) → ((m : ℕ) → Row j m → Ahead 1 (suc j) m) → Ahead d j e → Ahead (suc d) (suc j) e
  unfolding Ahead
  past_for zero j e f h = f e h
  past_for (suc d) j e f (m, h, more) = let (x, body, rest) = f m h in (x, body, (m, rest, more))

  past_if : (d j e : ℕ) → ((m : ℕ) → Row j m → Ahead 2 (suc j) m) → Ahead d j e → Ahead (suc (suc d)) (suc j) e
  unfolding Ahead
  past_if zero j e f h = f e h
  past_if (suc d) j e f (m, h, more) = let (x, first, (y, second, rest)) = f m h in (x, first, (y, second, (m, rest, more)))

  module _ (j : ℕ) (h : j < length rs) where
    abbrev code : ℕ
    code = (get_or rs j nothing).code

    plain_row : (code ≡ 8 → ⊥) → (code ≡ 9 → ⊥) → code < 10 → (m : ℕ) → Row j m → Row (suc j) m
    plain_row x y z m r = let (o, e, f) = plain_at r.is h x y z in record { scope = r.scope; opens = _; block = _; is = f.more }

    for_row : code ≡ 8 → (m : ℕ) → Row j m → Ahead 1 (suc j) m
    unfolding Ahead
    for_row z m r =
        let f = loop_at r.is z in
        (f.end_at, record { scope = r.scope; opens = _; block = _; is = f.inner }, record { scope = r.scope; opens = _; block = _; is = f.more })

    if_row : code ≡ 9 → (m : ℕ) → Row j m → Ahead 2 (suc j) m
    unfolding Ahead
    if_row z m r =
        let f = branch_at r.is z in (
          f.else_at,
          record { scope = r.scope; opens = _; block = _; is = f.inner },
          (f.end_at, record { scope = r.scope; opens = _; block = _; is = f.other }, record { scope = r.scope; opens = _; block = _; is = f.more }),
        )

    -- it has a code
    row_coded : (m : ℕ) × Row j m → coded code ≡ Err no_code → ⊥
    row_coded (m, r) e =
        let f = fits_at r.is.reads 0 (simp length-drop (omega arith)) in
        let same : get_or (drop j rs) 0 nothing ≡ get_or rs j nothing = get_or-drop j rs 0 nothing ∙ ap (λ n. get_or rs n nothing) (add-zero j) in
        subst (StatementFits r.scope) (ap statement same ∙ says_nothing (get_or rs j nothing) e) f

    -- an else or end
    stop_row : 10 ≤ code → (m : ℕ) → Row j m → j ≡ m
    stop_row z m r = (stop_at r.is h z).1

    past_stop : 10 ≤ code → (d e : ℕ) → Ahead (suc d) j e → Ahead d (suc j) e
    unfolding Ahead
    past_stop z d e (m, r, more) = subst (λ m. Ahead d (suc m) e) (sym (stop_row z m r)) more

    past_one : (d e : ℕ) → (10 ≤ code → 1 ≤ d) → Ahead d j e → Ahead (depth_after d code) (suc j) e
    past_one d e z a = by (ℕ_discrete code 8) (ℕ_discrete code 9) (dec_lt code 10)
      where
        to : (n : ℕ) → depth_after d code ≡ n → Ahead n (suc j) e → Ahead (depth_after d code) (suc j) e
        to n p h = subst (λ n. Ahead n (suc j) e) (sym p) h

        by : Dec (code ≡ 8) → Dec (code ≡ 9) → Dec (code < 10) → Ahead (depth_after d code) (suc j) e
        by (yes x) y l = to (suc d) (depth_after_for d code x ∙ omega arith) (past_for d j e (for_row x) a)
        by (no x) (yes y) l = to (suc (suc d)) (depth_after_if d code y ∙ omega arith) (past_if d j e (if_row y) a)
        by (no x) (no y) (yes l) = to d (depth_after_plain d code x y l) (past_plain d j e (plain_row x y l) a)
        by (no x) (no y) (no l) =
            let some : d ≡ suc (d - 1) = omega (arith, z (omega arith)) in
            to (d - 1) (depth_after_closing d code (omega arith)) (past_stop (omega arith) (d - 1) e (subst (λ d. Ahead d j e) some a))

  -- ---- the search for the end of the block at i, at record j, with d elses and ends to pass over

  pub record Scanning (i d j : ℕ) : Type 0 where
    pub ahead : Ahead d j (stop_of (tree_at rs i))
    pub inside : stop_of (tree_at rs i) < length rs

  pub scan_begins : (i : ℕ) → InBlock rs i → Scanning i 0 i
  unfolding Ahead
  scan_begins i b =
      let c = b.begins.scope in
      let h = open_there c rs i b.begins.reads b.some in
      let t = block_at rs i b.begins (omega arith) in
      record {
        ahead = record { scope = c; opens = b.begins.opens; block = tree_at rs i; is = t };
        inside = open_there c rs (stop_of (tree_at rs i)) (through c rs t.is t.reads) b.some;
      }

  module _ (i d j : ℕ) (s : Scanning i d j) where
    pub scan_there : j < length rs
    scan_there = omega (arith, ahead_low d j (stop_of (tree_at rs i)) s.ahead, s.inside)

    pub scan_coded : coded (get_or rs j nothing).code ≡ Err no_code → ⊥
    scan_coded = row_coded j scan_there (first_row d j (stop_of (tree_at rs i)) s.ahead)

    pub scan_on : (10 ≤ (get_or rs j nothing).code → 1 ≤ d) → Scanning i (depth_after d (get_or rs j nothing).code) (j + 1)
    scan_on z =
        let e : suc j ≡ j + 1 = omega arith in
        subst (Scanning i (depth_after d (get_or rs j nothing).code)) e (record { ahead = past_one j scan_there d (stop_of (tree_at rs i)) z s.ahead; inside = s.inside })

    pub scan_found : 10 ≤ (get_or rs j nothing).code → d ≡ 0 → j ≡ stop_of (tree_at rs i)
    unfolding Ahead
    scan_found h z = stop_row j scan_there h (stop_of (tree_at rs i)) (subst (λ d. Ahead d j (stop_of (tree_at rs i))) z s.ahead)
