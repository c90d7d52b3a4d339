-- Counts and lengths as met: from what each count and each section came to, to what all sections come to.
use Prim.Native.Nat.{ℕ, ◌+◌, ◌-◌, ◌*◌, ◌<◌, ◌≤◌}
use mathlib.Core.Path.{◌≡◌, refl, sym, ap, ◌∙◌}
use mathlib.Core.Bool.{Bool, true, false}
use mathlib.Core.List.{List}
use native.Mathlib.Omega.{arith}
use lib.Dec.{eqb, leb, ltb}
use lib.ListN.{length, drop, length-drop, drop_of_length-le}
use lib.Seq.{drop-drop}
use borrow.Author.Tests.{eq-eqb, ne_eqb, lt-leb, le-leb, ltb-true, ltb-false}
use Rattle.std.specs.Prelude.{Ok, Err}
use Rattle.std.specs.Prelude as Std
use Rattle.numbers.specs.Result.{Result, ok, stop, ◌>>=◌, need}
use Rattle.kernel.specs.File.{Rec, Kernel}
use Rattle.kernel.specs.Reading.{Fault, fault, count, records, section, sections}
use Rattle.kernel.specs.Named.{unread}
use Rattle.kernel.specs.declared.refusals.Unread.{Unread}
use Rattle.read_counts.specs.declared.Counted.{Counted}
use Rattle.read_counts.specs.View.{counted, listed}

-- ---- one step of a `do`, by another name of what it came to

module _ {A : Type 0} (ws : List ℕ) {x : Std.Result Counted Unread} where
  module _ {n : Result Fault (ℕ × List ℕ)} (k : ℕ × List ℕ → Result Fault A) (e : counted ws x ≡ n) where
    counted_go : {f : Counted} → x ≡ Ok f → (n >>= k) ≡ k (f.count, drop f.next ws)
    unfolding ◌>>=◌ counted
    counted_go w = ap (λ m. m >>= k) (sym e ∙ ap (counted ws) w)

    counted_stop : {u : Unread} → x ≡ Err u → (n >>= k) ≡ stop (unread u)
    unfolding ◌>>=◌ counted
    counted_stop w = ap (λ m. m >>= k) (sym e ∙ ap (counted ws) w)

  module _ {n : Result Fault (List Rec × List ℕ)} (k : List Rec × List ℕ → Result Fault A) (e : listed ws x ≡ n) where
    listed_go : {f : Counted} → x ≡ Ok f → (n >>= k) ≡ k (records f.count (drop (f.next - 8 * f.count) ws), drop f.next ws)
    unfolding ◌>>=◌ listed
    listed_go w = ap (λ m. m >>= k) (sym e ∙ ap (listed ws) w)

    pub listed_stop : {u : Unread} → x ≡ Err u → (n >>= k) ≡ stop (unread u)
    unfolding ◌>>=◌ listed
    listed_stop w = ap (λ m. m >>= k) (sym e ∙ ap (listed ws) w)

-- ---- a section, from its count

from_count : ℕ × List ℕ → Result Fault (List Rec × List ℕ)
from_count (n, ws) = do
  _ ← need (fault 1 0 0) (leb (8 * n) (length ws))
  ok (records n ws, drop (8 * n) ws)

module _ (ws : List ℕ) (p s low high : ℕ) {x : Std.Result Counted Unread} (e : counted ws x ≡ count s low high (drop p ws)) where
  pub section_stop : {u : Unread} → x ≡ Err u → section s low high (drop p ws) ≡ stop (unread u)
  unfolding section from_count
  section_stop w = counted_stop ws from_count e w

  module _ (f : Counted) (w : x ≡ Ok f) where
    section_go : section s low high (drop p ws) ≡ from_count (f.count, drop f.next ws)
    unfolding section from_count
    section_go = counted_go ws from_count e w

    -- a count that is found stands inside
    inside : p < length ws
    unfolding count counted
    inside = by (ltb p (length ws)) refl
      where
        by : (t : Bool) → ltb p (length ws) ≡ t → p < length ws
        by true t = ltb-true p (length ws) t
        by false t =
            let clash : ◌≡◌ {A = Result Fault (ℕ × List ℕ)} (ok (f.count, drop f.next ws)) (stop (fault 1 0 0))
            = sym (ap (counted ws) w) ∙ e ∙ ap (count s low high) (drop_of_length-le ws {i = p} (ltb-false p (length ws) t)) in
            let z : ◌≡◌ {A = ℕ} 0 1 = cc in
            absurd (omega arith)

    pub section_short : f.next ≡ p + 1 → length ws < f.next + 8 * f.count → section s low high (drop p ws) ≡ stop (fault 1 0 0)
    unfolding from_count need ◌>>=◌
    section_short n l =
        section_go
        ∙ ap (λ t. need (fault 1 0 0) t >>= λ _. ok (records f.count (drop f.next ws), drop (8 * f.count) (drop f.next ws)))
        (lt-leb (8 * f.count) (length (drop f.next ws)) (simp length-drop (omega (arith, inside))))

    pub section_there : f.next + 8 * f.count ≤ length ws
        → section s low high (drop p ws) ≡ ok (records f.count (drop f.next ws), drop (f.next + 8 * f.count) ws)
    unfolding from_count need ◌>>=◌
    section_there l =
        section_go
        ∙ ap (λ t. need (fault 1 0 0) t >>= λ _. ok (records f.count (drop f.next ws), drop (8 * f.count) (drop f.next ws)))
        (le-leb (8 * f.count) (length (drop f.next ws)) (simp length-drop (omega arith)))
        ∙ ap (λ ws'. ok (records f.count (drop f.next ws), ws')) (drop-drop (8 * f.count) f.next ws)

    -- the answer's own form of it
    pub listed_there : f.next + 8 * f.count ≤ length ws
        → listed ws (Ok (record { count = f.count; next = f.next + 8 * f.count })) ≡ section s low high (drop p ws)
    unfolding listed
    listed_there l =
        let e : f.next + 8 * f.count - 8 * f.count ≡ f.next = omega arith in
        ap (λ n. ok (records f.count (drop n ws), drop (f.next + 8 * f.count) ws)) e ∙ sym (section_there l)

-- ---- all sections, section by section

pub from_end : (r b : ℕ) → (arrays array_program stream_program derivation : List Rec) → List ℕ → Result Fault Kernel
from_end r b arrays array_program stream_program derivation ws = do
  _ ← need (fault 1 0 0) (eqb (length ws) 0)
  ok (record { registers = r; buffers = b; arrays = arrays; array_program = array_program; stream_program = stream_program; derivation = derivation })

pub from_d : (r b : ℕ) → (arrays array_program stream_program : List Rec) → List ℕ → Result Fault Kernel
from_d r b arrays array_program stream_program ws = do
  (derivation, ws) ← section 6 0 1024 ws
  from_end r b arrays array_program stream_program derivation ws

pub from_t : (r b : ℕ) → (arrays array_program : List Rec) → List ℕ → Result Fault Kernel
from_t r b arrays array_program ws = do
  (stream_program, ws) ← section 5 0 256 ws
  from_d r b arrays array_program stream_program ws

pub from_s : (r b : ℕ) → (arrays : List Rec) → List ℕ → Result Fault Kernel
from_s r b arrays ws = do
  (array_program, ws) ← section 4 0 256 ws
  from_t r b arrays array_program ws

pub from_a : (r b : ℕ) → List ℕ → Result Fault Kernel
from_a r b ws = do
  (arrays, ws) ← section 3 1 8 ws
  from_s r b arrays ws

pub from_b : ℕ → List ℕ → Result Fault Kernel
from_b r ws = do
  (b, ws) ← count 2 0 16 ws
  from_a r b ws

as_met : (ws : List ℕ) → sections ws ≡ (count 1 1 32 ws >>= λ (p : ℕ × List ℕ). from_b p.0 p.1)
unfolding sections from_end from_d from_t from_s from_a from_b
as_met ws = refl

-- the records that a section came to
abbrev pub listing : List ℕ → Counted → List Rec
listing ws f = records f.count (drop (f.next - 8 * f.count) ws)

-- what each step found, the steps before it having found something
module _ (ws : List ℕ) {x : Std.Result Counted Unread} where
  module _ (e : counted ws x ≡ count 1 1 32 ws) where
    pub stop_r : {u : Unread} → x ≡ Err u → sections ws ≡ stop (unread u)
    stop_r w = as_met ws ∙ counted_stop ws (λ p. from_b p.0 p.1) e w

    pub go_r : {r : Counted} → x ≡ Ok r → sections ws ≡ from_b r.count (drop r.next ws)
    go_r w = as_met ws ∙ counted_go ws (λ p. from_b p.0 p.1) e w

  module _ (r : ℕ) (rest : List ℕ) (so : sections ws ≡ from_b r rest) (e : counted ws x ≡ count 2 0 16 rest) where
    pub stop_b : {u : Unread} → x ≡ Err u → sections ws ≡ stop (unread u)
    unfolding from_b
    stop_b w = so ∙ counted_stop ws (λ p. from_a r p.0 p.1) e w

    pub go_b : {b : Counted} → x ≡ Ok b → sections ws ≡ from_a r b.count (drop b.next ws)
    unfolding from_b
    go_b w = so ∙ counted_go ws (λ p. from_a r p.0 p.1) e w

  module _ (r b : ℕ) (rest : List ℕ) (so : sections ws ≡ from_a r b rest) (e : listed ws x ≡ section 3 1 8 rest) where
    pub stop_a : {u : Unread} → x ≡ Err u → sections ws ≡ stop (unread u)
    unfolding from_a
    stop_a w = so ∙ listed_stop ws (λ p. from_s r b p.0 p.1) e w

    pub go_a : {a : Counted} → x ≡ Ok a → sections ws ≡ from_s r b (listing ws a) (drop a.next ws)
    unfolding from_a
    go_a w = so ∙ listed_go ws (λ p. from_s r b p.0 p.1) e w

  module _ (r b : ℕ) (a : List Rec) (rest : List ℕ) (so : sections ws ≡ from_s r b a rest) (e : listed ws x ≡ section 4 0 256 rest) where
    pub stop_s : {u : Unread} → x ≡ Err u → sections ws ≡ stop (unread u)
    unfolding from_s
    stop_s w = so ∙ listed_stop ws (λ p. from_t r b a p.0 p.1) e w

    pub go_s : {s : Counted} → x ≡ Ok s → sections ws ≡ from_t r b a (listing ws s) (drop s.next ws)
    unfolding from_s
    go_s w = so ∙ listed_go ws (λ p. from_t r b a p.0 p.1) e w

  module _ (r b : ℕ) (a s : List Rec) (rest : List ℕ) (so : sections ws ≡ from_t r b a s rest) (e : listed ws x ≡ section 5 0 256 rest) where
    pub stop_t : {u : Unread} → x ≡ Err u → sections ws ≡ stop (unread u)
    unfolding from_t
    stop_t w = so ∙ listed_stop ws (λ p. from_d r b a s p.0 p.1) e w

    pub go_t : {t : Counted} → x ≡ Ok t → sections ws ≡ from_d r b a s (listing ws t) (drop t.next ws)
    unfolding from_t
    go_t w = so ∙ listed_go ws (λ p. from_d r b a s p.0 p.1) e w

  module _ (r b : ℕ) (a s t : List Rec) (rest : List ℕ) (so : sections ws ≡ from_d r b a s t rest) (e : listed ws x ≡ section 6 0 1024 rest) where
    pub stop_d : {u : Unread} → x ≡ Err u → sections ws ≡ stop (unread u)
    unfolding from_d
    stop_d w = so ∙ listed_stop ws (λ p. from_end r b a s t p.0 p.1) e w

    pub go_d : {d : Counted} → x ≡ Ok d → sections ws ≡ from_end r b a s t (listing ws d) (drop d.next ws)
    unfolding from_d
    go_d w = so ∙ listed_go ws (λ p. from_end r b a s t p.0 p.1) e w

-- nothing may follow
module _ (ws : List ℕ) (r b : ℕ) (a s t d : List Rec) (next : ℕ) (so : sections ws ≡ from_end r b a s t d (drop next ws)) where
  abbrev found : Kernel
  found = record {
    registers = r;
    buffers = b;
    arrays = a;
    array_program = s;
    stream_program = t;
    derivation = d;
  }

  pub stop_end : next < length ws → sections ws ≡ stop (fault 1 0 0)
  unfolding from_end need ◌>>=◌
  stop_end h = so ∙ ap (λ t. need (fault 1 0 0) t >>= λ _. ok found) (ne_eqb (length (drop next ws)) 0 (λ e. short (sym (length-drop next ws) ∙ e)))
    where
      short : length ws - next ≡ 0 → ⊥
      short e = omega arith

  pub go_end : length ws ≤ next → sections ws ≡ ok found
  unfolding from_end need ◌>>=◌
  go_end h = so ∙ ap (λ t. need (fault 1 0 0) t >>= λ _. ok found) (eq-eqb (length (drop next ws)) 0 (simp length-drop (omega arith)))
