-- The statements of a program, one after another: what is left of the test from each place on.
use Prim.Native.Nat.{ℕ, suc, ◌+◌, ◌<◌, ◌≤◌}
use mathlib.Core.Path.{◌≡◌, sym, ap, subst, ◌∙◌}
use mathlib.Core.Bool.{true, false}
use mathlib.Core.List.{List}
use native.Mathlib.Omega.{arith}
use lib.ListN.{length, get_or, drop, drop_of_length-le}
use Rattle.std.specs.Prelude.{Ok}
use Rattle.numbers.specs.Result.{ok, stop, need, because, ◌>>=◌}
use Rattle.numbers.proofs.Rows.{drop_there}
use Rattle.kernel.specs.File.{Rec, nothing, none, sayings, statement, loop_of}
use Rattle.kernel.specs.Reading.{fault, Scope, Open, statement_fits, after, closed, statements_fit}
use Rattle.kernel.specs.Guarantees.{StatementFits}
use Rattle.kernel.specs.Named.{misread}
use Rattle.kernel.specs.declared.refusals.Misread.{Misread}
use Rattle.kernel.proofs.Readable.{statement_says}
use Rattle.read_blocks.specs.declared.open.OpenBlocks.{OpenBlocks}
use Rattle.read_blocks.specs.Blocks.{first}
use Rattle.read_blocks.specs.View.{opens, nested}
use Rattle.read_blocks.proofs.Opens.{opens_top}

-- a for that is a statement has its passes
pub loop_there : (c : Scope) (r : Rec) → statement_fits c r ≡ true → r.code ≡ 8 → (1 ≤ (loop_of r).passes) × ((loop_of r).passes ≤ 131072)
unfolding statement sayings
loop_there c r h e =
    let f = subst (λ k. StatementFits c (get_or sayings k (λ r. none) r)) e (statement_says c r h) in
    (f.some, f.few)

-- ---- one statement

module _ (c : Scope) (s : ℕ) (rs : List Rec) (i : ℕ) (h : i < length rs) (os : List Open) where
  abbrev this : Rec
  this = get_or rs i nothing

  opened_up : statements_fit c s i os (drop i rs)
      ≡ (need (fault 3 s i) (statement_fits c this) >>= λ _. because (λ number. fault number s i) (after (statement this) os) >>= λ os. statements_fit c s (i + 1) os (drop (i + 1) rs))
  unfolding statements_fit
  opened_up =
      let e : suc i ≡ i + 1 = omega arith in
      ap (statements_fit c s i os) (drop_there rs i nothing h)
      ∙ ap (λ j. need (fault 3 s i) (statement_fits c this) >>= λ _. because (λ number. fault number s i) (after (statement this) os) >>= λ os. statements_fit c s j os (drop (i + 1) rs)) e

  pub unfit : statement_fits c this ≡ false → statements_fit c s i os (drop i rs) ≡ stop (fault 3 s i)
  unfolding need ◌>>=◌
  unfit f =
      opened_up
      ∙ ap (λ t. need (fault 3 s i) t >>= λ _. because (λ number. fault number s i) (after (statement this) os) >>= λ os. statements_fit c s (i + 1) os (drop (i + 1) rs)) f

  module _ (f : statement_fits c this ≡ true) where
    fine : statements_fit c s i os (drop i rs) ≡ (because (λ number. fault number s i) (after (statement this) os) >>= λ os. statements_fit c s (i + 1) os (drop (i + 1) rs))
    unfolding need ◌>>=◌
    fine =
        opened_up
        ∙ ap (λ t. need (fault 3 s i) t >>= λ _. because (λ number. fault number s i) (after (statement this) os) >>= λ os. statements_fit c s (i + 1) os (drop (i + 1) rs)) f

    pub blocked : (m : Misread) → stop (misread m) ≡ after (statement this) os → statements_fit c s i os (drop i rs) ≡ stop (fault (misread m) s i)
    unfolding because ◌>>=◌
    blocked m e = fine ∙ ap (λ m. because (λ number. fault number s i) m >>= λ os. statements_fit c s (i + 1) os (drop (i + 1) rs)) (sym e)

    pub goes_on : (n : OpenBlocks) → nested (Ok tt) n ≡ after (statement this) os → statements_fit c s (i + 1) (opens n) (drop (i + 1) rs) ≡ statements_fit c s i os (drop i rs)
    unfolding because ◌>>=◌ nested
    goes_on n e = sym (fine ∙ ap (λ m. because (λ number. fault number s i) m >>= λ os. statements_fit c s (i + 1) os (drop (i + 1) rs)) (sym e))

-- ---- after the last

module _ (c : Scope) (s : ℕ) (rs : List Rec) (i : ℕ) (n : OpenBlocks) (count : ℕ) (h : length rs ≤ i) (e : i ≡ count) where
  pub over : statements_fit c s i (opens n) (drop i rs) ≡ closed s count (opens n)
  unfolding statements_fit
  over = ap (statements_fit c s i (opens n)) (drop_of_length-le rs {i = i} h) ∙ ap (λ i. closed s i (opens n)) e

  pub over_closed : n.depth ≡ 0 → statements_fit c s i (opens n) (drop i rs) ≡ ok tt
  unfolding opens first closed
  over_closed d = over ∙ ap (λ d. closed s count (first n.blocks d)) d

  pub over_open : 0 < n.depth → statements_fit c s i (opens n) (drop i rs) ≡ stop (fault 4 s count)
  unfolding closed
  over_open d = over ∙ ap (closed s count) (opens_top n d)
