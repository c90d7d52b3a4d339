-- A for that fits: its rows are all there and their forms small, its loop fits, and inside it the array program reads on.
use Prim.Native.Nat.{ℕ, zero, suc, ◌+◌, ◌-◌, ◌^◌, ◌≤◌, ◌<◌}
use mathlib.Core.Path.{◌≡◌, refl, sym, ap, subst, ◌∙◌}
use mathlib.Core.Bool.{Bool, true, ◌&&◌, false≢true}
use mathlib.Core.List.{List, [], ◌∷◌, ◌++◌, map}
use native.Mathlib.Omega.{arith}
use native.Mathlib.Decide.{dec_lt}
use lib.IntN.{pos, nat_abs}
use lib.ListN.{length, get_or, take, drop, length-append, length-take, length-drop, length-map, get_or-eq_default}
use lib.Seq.{length-take-le}
use Rattle.std.proofs.Common.{Ok}
use Rattle.numbers.specs.Result.{ok, ◌>>=◌, need, because}
use Rattle.numbers.specs.Words.{signed}
use Rattle.numbers.proofs.Tests.{and_left, and_right}
use Rattle.forms.specs.Form as F
use Rattle.forms.specs.declared.Loops.{Loops}
use Rattle.forms.specs.Code.{loop, loops, Within}
use Rattle.kernel.specs.File.{Rec, form, nothing, Kernel, fors, loop_of}
use Rattle.kernel.specs.Reading.{array_scope, Open, open_loops}
use Rattle.kernel.specs.Ledger as L
use Rattle.kernel.specs.Derivation as Derivation
use Rattle.kernel.specs.Derivation.{Opened, went}
use Rattle.kernel.specs.Check as Check
use Rattle.kernel.specs.Guarantees.{FormSmall, LoopFits, StatementFits, RuleFits}
use Rattle.kernel.proofs.Readable.{all_at}
use Rattle.kernel.proofs.Fitting.{codes_say}
use Rattle.kernel.proofs.Fronts.{read_for}
use Rattle.kernel.proofs.Sayings.{says_for, fits_at, there_at}
use Rattle.kernel.specs.Named.{rule}
use Rattle.kernel.specs.declared.codes.Rule.TheVariants.{For}
use Rattle.parts.specs.declared.Counts.{Counts}
use Rattle.parts.specs.declared.Kernel as Code
use Rattle.parts.specs.Parts.{kernel, records_in, ReadAs, derivation_part}
use Rattle.check_rows.proofs.Rows.{row}
use Rattle.check_ledger.specs.declared.Ledger.{Ledger}
use Rattle.check_ledger.specs.View.{ledger, no_form, Bounded}
use Rattle.check_ledger.proofs.Bounds.{within_wider}
use Rattle.check_rows.specs.View.{SmallForms}
use Rattle.check_take.specs.declared.Place.{Place}
use Rattle.check_take.specs.View.{held_by, Taken, goes, Stood, Onward, array_there, stream_there, loop_there, TakesRule, ReadsOn, Enters}
use Rattle.parts.proofs.Parts.{reads, arrays_count, buffers_are, rule_count, derivation_is}
use Rattle.check_take.proofs.Comes.{here, Fitting, Effect, Comes}
use Rattle.check_take.proofs.Going.{one_further}

-- ---- the loops around

module _ (ls : Loops) (long : length ls.levels ≡ 4) where
  pub loops_count : ls.count ≤ 4 → length (loops ls) ≡ ls.count
  loops_count h = length-take-le ls.count (map loop ls.levels) (omega (arith, length-map ls.levels loop))

  -- the level of the last of them
  pub level_inside : (around : List F.Loop) (own : F.Loop) → ls.count ≤ 4 → around ++ own ∷ [] ≡ loops ls → length around ≡ ls.count - 1
  level_inside around own h e = omega (arith, length-append around (own ∷ []), ap length e, loops_count h)

-- some blocks with n loops
unfoldable pub deep : ℕ → List Opened
deep zero = []
deep (suc n) = Derivation.in_for (record { first = pos 0; step = pos 0; passes = 0 }) (record { positions = []; buffers = [] }) ∷ deep n

pub deep_loops : (n : ℕ) → length (Derivation.loops (deep n)) ≡ n
unfolding deep Derivation.loops
deep_loops zero = refl
deep_loops (suc n) = length-append (Derivation.loops (deep n)) _ ∙ omega (arith, deep_loops n)

-- ---- its rows

order_long : (code level m n : ℕ) (rs : List Rec) → Check.in_order code level m n rs ≡ true → n ≤ length rs
unfolding Check.in_order
order_long code level m zero rs h = omega arith
order_long code level m (suc n) [] h = absurd (false≢true h)
order_long code level m (suc n) (r ∷ rs) h =
    omega (arith, order_long code level (suc m) n rs (and_right (row code level m r) (Check.in_order code level (suc m) n rs) h))

rows_long : (K : Kernel) (d : Derivation.Place) (level : ℕ) → Check.rows_fit K level (Derivation.hold_rows K d) ≡ true → d.rule < length K.derivation
    → d.rule + 1 + length K.arrays + K.buffers ≤ length K.derivation
unfolding Check.rows_fit Derivation.hold_rows
rows_long K d level h l =
    let a = length K.arrays in
    let rs = take (Derivation.row_count K) (drop (suc d.rule) K.derivation) in
    let first = order_long 11 level 0 a rs (and_left _ (Check.in_order 12 level 0 K.buffers (drop a rs)) h) in
    let second = order_long 12 level 0 K.buffers (drop a rs) (and_right (Check.in_order 11 level 0 a rs) _ h) in
    omega (arith, l, first, second, length-drop a rs, length-take (Derivation.row_count K) (drop (suc d.rule) K.derivation), length-drop (suc d.rule) K.derivation)

-- the form of no record is 0
nothing_small : FormSmall (form nothing)
unfolding form F.coefficient signed
nothing_small = record { k_small = omega arith; x_small = by }
  where
    by : (level : ℕ) → nat_abs (get_or (pos 0 ∷ pos 0 ∷ pos 0 ∷ pos 0 ∷ []) level (pos 0)) ≤ 1048576
    by zero = omega arith
    by (suc zero) = omega arith
    by (suc (suc zero)) = omega arith
    by (suc (suc (suc zero))) = omega arith
    by (suc (suc (suc (suc level)))) = omega arith

module _ (file : List ℕ) (c : Counts) (e : ReadAs file c) where
  abbrev rs : List Rec
  rs = (kernel file c).derivation

  small_form : (i : ℕ) → Dec (i < length rs) → FormSmall (form (get_or rs i nothing))
  small_form i (yes h) = (all_at (RuleFits (kernel file c)) rs nothing (reads file c e).derivation i h).form_small
  small_form i (no h) = subst (λ r. FormSmall (form r)) (sym (get_or-eq_default rs nothing {n = i} (omega arith))) nothing_small

  pub small_forms : SmallForms (records_in file (derivation_part c))
  small_forms = subst SmallForms (derivation_is file c) (record { at_record = λ i. small_form i (dec_lt i (length rs)) })

-- positions as small as those of a file; what buffers hold is not asked
pub stated_bounded : (n : ℕ) (l : Ledger) → length l.positions ≡ 8 → ((q : ℕ) → Within (2 ^ 20) (2 ^ 20) (get_or l.positions q no_form)) → Bounded n l
stated_bounded n l whole h = record { whole = whole; at_position = λ q. within_wider (h q) (omega arith) (omega arith) }

-- ---- after a for and its rows

abbrev pub past_rows : Counts → Place → Place
past_rows c at = record { rule = at.rule + 1 + c.a + c.b; array = at.array + 1; stream = at.stream + 1 }

abbrev pub entered : Counts → Place → Ledger → Taken
entered c at rows = record { came = Ok (past_rows c at); ledger = rows }

module _ (k : Code.Kernel) (at : Place) (l : Ledger) where
  abbrev c : Counts
  c = k.counts

  abbrev file : List ℕ
  file = k.file.now

  abbrev K : Kernel
  K = held_by k

  abbrev a : Rec
  a = array_there k at

  abbrev s : Rec
  s = stream_there k at

  pub first_as : (p : Rec) → p ≡ a → signed p.p ≡ (loop_there k at).first
  unfolding loop_of
  first_as p e = ap (λ (r : Rec). signed r.p) e

  module _ (os : List Opened) where
    pub tests : (p q : Rec) (t : Bool) → p ≡ a → q ≡ s → t ≡ Check.fits K (here k os at l) Derivation.for_rule p q → t ≡ Fitting k os at l For
    unfolding rule
    tests p q t e f g = g ∙ (λ i. Check.fits K (here k os at l) Derivation.for_rule (e i) (f i))

    pub for_enters : (level : ℕ) (around : List F.Loop) (rows : L.Ledger) → length (Derivation.loops os) ≡ level → Derivation.loops os ≡ around → rows ≡ Derivation.stated K (Derivation.hold_rows K (here k os at l))
        → Effect k os at l For
        ≡ (need 14 (L.rows_true around (L.each (F.put_at level (loop_there k at).first) rows) (ledger c.a c.b l)) >>= λ _. ok (went (suc (Derivation.row_count K)) 1 1 (Derivation.in_for (loop_there k at) rows ∷ os) rows (here k os at l)))
    unfolding Check.effect rule
    for_enters level around rows e g f =
        λ i. need 14 (L.rows_true (g i) (L.each (F.put_at (e i) (loop_there k at).first) (sym f i)) (ledger c.a c.b l)) >>= λ _. ok (went (suc (Derivation.row_count K)) 1 1 (Derivation.in_for (loop_there k at) (sym f i) ∷ os) (sym f i) (here k os at l))

    pub went_in : (os' : List Opened) (m : Ledger) → Comes k os at l (ok (went (suc (Derivation.row_count K)) 1 1 os' (ledger c.a c.b m) (here k os at l))) → TakesRule k os at l os' (entered c at m)
    unfolding goes Check.at because went Derivation.row_count
    went_in os' m t =
        let q : at.rule + 1 + c.a + c.b ≡ at.rule + suc (length K.arrays + K.buffers) = omega (arith, arrays_count file c, buffers_are file c) in
        (λ i. ok (record { rule = q i; array = at.array + 1; stream = at.stream + 1; opened = os'; ledger = ledger c.a c.b m })) ∙ sym t

    -- ---- it fits

    module _ (h : Fitting k os at l For ≡ true) where
      for_code : a.code ≡ fors
      unfolding Check.fits rule
      for_code = (codes_say 8 8 a s (and_left _ (Check.same_pqk a s) (and_left _ (Check.rows_fit K (suc (length (Derivation.loops os))) (Derivation.hold_rows K (here k os at l))) h))).0

      pub rows_there : at.rule < c.d → at.rule + 1 + c.a + c.b ≤ c.d
      unfolding Check.fits rule
      rows_there d =
          let t = rows_long K (here k os at l) (suc (length (Derivation.loops os))) (and_right (Check.codes fors fors a s && Check.same_pqk a s) _ h) (omega (arith, d, rule_count file c)) in
          omega (arith, t, arrays_count file c, buffers_are file c, rule_count file c)

      pub loop_fits : LoopFits (loop_there k at)
      loop_fits = subst (StatementFits (array_scope K)) (says_for a for_code) (fits_at (reads file c k.reads).array_program at.array (there_at K.array_program at.array (omega (arith, for_code))))

      pub for_onward : (m : Ledger) → Stood c at l → at.rule < c.d → length m.positions ≡ 8 → ((q : ℕ) → Within (2 ^ 20) (2 ^ 20) (get_or m.positions q no_form)) → Onward c at (past_rows c at) m
      for_onward m g d whole h' = record {
        stood = record { rules = rows_there d; arrays = omega (arith, g.arrays); streams = omega (arith, g.streams); bounded = stated_bounded _ m whole h' };
        further_on = omega arith;
      }

      pub enters : (opens : List Open) → ReadsOn k opens at → Enters k opens at (past_rows c at)
      unfolding open_loops
      enters opens n =
          let (fits, room, more) = read_for (array_scope K) K.array_program at.array n (says_for a for_code) in
          record { fits = fits; room = omega (arith, room.loops); reads_inside = one_further (array_scope K) K.array_program at.array more }
