-- What follows the rules runs alike: from a place of an accepted derivation on, the blocks that both programs stand in keep the tie, up to
-- the rule that closes them. By the number of steps left.
use mathlib.Core.Path.{◌≡◌, refl, sym, ap, subst, subst₂, ◌∙◌}
use mathlib.Core.Logic.{◌⊎◌, inl, inr}
use mathlib.Core.Bool.{Bool, true, false, cond}
use mathlib.Core.List.{List, [], ◌∷◌}
use mathlib.Core.Option.{Option, none, some}
use Prim.Native.Nat.{ℕ, zero, suc, ◌+◌, ◌<◌, ◌≤◌}
use native.Mathlib.Omega.{arith}
use native.Mathlib.Numerals.{add-one}
use native.Mathlib.Nat.{add-zero, zero-add}
use lib.Dec.{eqb}
use lib.ListN.{length, get_or, take, drop, length-append, length-map, length-take, length-drop}
use lib.IntN.{◌+ℤ◌, +ℤ_idr, *ℤ-zero}
use Rattle.numbers.specs.Result.{Result, ok, stop, ◌>>=◌, because}
use Rattle.forms.specs.Form.{Form, put_at, moved_by, Loop, counter, limit, Choice}
use Rattle.kernel.specs.File.{Rec, form, Kernel, output, array, sets, copies, works, reads, fors, ifs, operator, Op, copy, work, load, store, read, write, Statement, does, for, if, else, end, loop_of, statement}
use Rattle.kernel.specs.File as File
use Rattle.kernel.specs.Reading.{array_scope, stream_scope, Open, open_for, open_if, open_else, open_loops}
use Rattle.kernel.specs.Blocks.{Block, said, StopsAt, at_an_else, at_an_end, past_the_last}
use Rattle.kernel.specs.Machine.{Layout, State, Counters, word, get, Stuck, stuck, step, choose, in_pass, run}
use Rattle.kernel.specs.Memory.{put_back}
use Rattle.kernel.specs.Ledger.{Held, Ledger, each, passed, hold, read_step, write_step, fill_step, move_step, merged}
use Rattle.kernel.specs.Derivation.{Opened, Place, loops, next_array, next_stream, went, row_count, hold_rows, stated, buffer, Rule}
use Rattle.kernel.specs.Rules.{level, rows_here, Rows, over, row, HoldRows, RowsTrue, Step, Finished, PositionsEqual, After, Line, goes_on, accepted, else_line, end_line, line}
use Rattle.kernel.specs.Guarantees.{OpFits, Reads}
use Rattle.kernel.proofs.Sayings.{says_set, says_copy, says_work, says_load, says_store, says_read, says_write, says_for, says_if, says_else, says_end, kind, unlike}
use Rattle.kernel.proofs.Fronts.{LoopFront, BranchFront, front_plain, front_loop, front_branch, front_stop, ReadBlock}
use Rattle.agreement.proofs.Lines.{Leads, leads_all}
use Rattle.agreement.proofs.Walks.{step_leads, Going, at_end, Path, stays, steps}
use Rattle.agreement.proofs.Sim.{content, Sim, Related, both_end, both_stick, sim_turn, set_length}
use Rattle.agreement.proofs.Steps.{Tied, keep_set, keep_copy, keep_work, keep_read, keep_fill, keep_use, keep_move, keep_write}
use Rattle.agreement.proofs.Turns.{holds_says, rows_values, kept_length, first_values, second_values}
use Rattle.agreement.proofs.Passes.{then_both, turn_both, Chosen, below_here, one_value_here, counters_four, chosen_pass, passes_kept}

-- ---- a ledger has a position for each stream and something or nothing for each buffer

pub record Long (K : Kernel) (L : Ledger) : Type 0 where
  pub positions : length L.positions ≡ length K.arrays
  pub buffers : length L.buffers ≡ K.buffers

-- as many rows as they should be
rows_there : {code level m n : ℕ} {rs : List Rec} → Rows code level m n rs → n ≤ length rs
rows_there over = omega arith
rows_there (row c p a more) = let h = rows_there more in omega arith

module _ {K : Kernel} where
  long_pass : {L : Ledger} (q : ℕ) → Long K L → Long K (passed q L)
  unfolding passed
  long_pass {L} q h = record { positions = set_length L.positions q _ h.positions; buffers = h.buffers }

  long_hold : {L : Ledger} (b : ℕ) (o : Option Held) → Long K L → Long K (hold b o L)
  unfolding hold
  long_hold {L} b o h = record { positions = h.positions; buffers = set_length L.buffers b o h.buffers }

  long_each : {L : Ledger} (g : Form → Form) → Long K L → Long K (each g L)
  unfolding each
  long_each {L} g h = record { positions = length-map L.positions g ∙ h.positions; buffers = length-map L.buffers _ ∙ h.buffers }

  long_merged : (around : List Loop) {L M : Ledger} → Long K L → Long K M → Long K (merged around L M)
  unfolding merged
  long_merged around {L} {M} h g = record { positions = h.positions; buffers = kept_length around L.buffers M.buffers (h.buffers ∙ sym g.buffers) ∙ h.buffers }

  long_rows : (level : ℕ) (c : Place) → HoldRows K level (hold_rows K c) → Long K (rows_here K c)
  unfolding stated hold_rows row_count
  long_rows level c h =
      let A = length K.arrays in
      let rs = take (length K.arrays + K.buffers) (drop (suc c.rule) K.derivation) in
      let some = rows_there h.positions in
      let more = rows_there h.buffers in
      let most = length-take (length K.arrays + K.buffers) (drop (suc c.rule) K.derivation) in
      record {
        positions = length-map (take A rs) _ ∙ length-take A rs ∙ omega arith;
        buffers = length-map (drop A rs) _ ∙ length-drop A rs ∙ omega (arith, length-drop A rs);
      }

-- ---- what stands next

one_of_three : (n : ℕ) → sets ≤ n → n ≤ works → (n ≡ sets) ⊎ ((n ≡ copies) ⊎ (n ≡ works))
one_of_three zero l h = absurd (omega arith)
one_of_three (suc zero) l h = inl refl
one_of_three (suc (suc zero)) l h = inr (inl refl)
one_of_three (suc (suc (suc zero))) l h = inr (inr refl)
one_of_three (suc (suc (suc (suc n)))) l h = absurd (omega arith)

module _ {K : Kernel} {e e₂ : Layout} (tied : Tied K e e₂) (reads : Reads K) where
  few : K.registers + K.buffers ≤ 48
  few = omega (arith, reads.few_registers, reads.few_buffers)

  few_arrays : length K.arrays ≤ 8
  few_arrays = reads.few_arrays

  -- what the next statements say
  pub array_says : (c : Place) → said K.array_program c.array ≡ statement (next_array K c)
  unfolding next_array
  array_says c = refl

  pub stream_says : (c : Place) → said K.stream_program c.stream ≡ statement (next_stream K c)
  unfolding next_stream
  stream_says c = refl

  -- from place c the derivation comes to the place that closes the block which both programs stand in; t and u, up to records i and j, are
  -- what is left of the block in either program
  pub record Closed (n : ℕ) (c z : Place) (t u : Block) (i j : ℕ) : Type 0 where
    pub left : ℕ
    pub fewer : left ≤ n
    pub place : Place
    pub path : Path K left place z
    pub opened_is : place.opened ≡ c.opened
    pub array_at : place.array ≡ i
    pub stream_at : place.stream ≡ j
    pub long : Long K place.ledger
    pub related : (a : Counters) → Chosen c.opened a → (x y : State) → Sim K e c.ledger a.values x y → Related K e place.ledger a.values (run e t a x) (run e₂ u a y)

  -- the blocks of both programs at a place
  pub record Blocks (c : Place) (t u : Block) (i j : ℕ) : Type 0 where
    pub array_open : List Open
    pub stream_open : List Open
    pub array_block : ReadBlock (array_scope K) K.array_program t array_open c.array i
    pub stream_block : ReadBlock (stream_scope K) K.stream_program u stream_open c.stream j
    pub levels : open_loops array_open ≡ length (loops c.opened)
    pub long : Long K c.ledger

  -- the derivation stands where the block closes
  closed_here : {n : ℕ} {c z : Place} {t u : Block} {i j : ℕ} → Path K n c z → Blocks c t u i j → StopsAt K.array_program c.array → StopsAt K.stream_program c.stream → Closed n c z t u i j
  unfolding run
  closed_here {n} {c} {z} {t} {u} {i} {j} p b h g =
      let (e₁, at₁) = front_stop b.array_block h in
      let (e₂', at₂) = front_stop b.stream_block g in
      record {
        left = n;
        fewer = omega arith;
        place = c;
        path = p;
        opened_is = refl;
        array_at = at₁;
        stream_at = at₂;
        long = b.long;
        related = λ a ch x y s. subst₂ (λ t u. Related K e c.ledger a.values (run e t a x) (run e₂ u a y)) (sym e₁) (sym e₂') (both_end s);
      }

  -- the blocks of both programs after a rule that opens and closes none
  blocks_on : {c d : Place} {t u t' u' : Block} {i j : ℕ} → (b : Blocks c t u i j) → d.opened ≡ c.opened → Long K d.ledger
      → ReadBlock (array_scope K) K.array_program t' b.array_open d.array i → ReadBlock (stream_scope K) K.stream_program u' b.stream_open d.stream j
      → Blocks d t' u' i j
  blocks_on b os long array_block stream_block =
      record {
        array_open = b.array_open;
        stream_open = b.stream_open;
        array_block = array_block;
        stream_block = stream_block;
        levels = b.levels ∙ ap (λ os. length (loops os)) (sym os);
        long = long;
      }

  -- what closes the block after a rule closes it before the rule
  closed_on : {n : ℕ} {c d z : Place} {t u t' u' : Block} {i j : ℕ} → d.opened ≡ c.opened → (r : Closed n d z t' u' i j)
      → ((a : Counters) → Chosen c.opened a → (x y : State) → Sim K e c.ledger a.values x y → Related K e r.place.ledger a.values (run e t a x) (run e₂ u a y))
      → Closed (suc n) c z t u i j
  closed_on os r related =
      record {
        left = r.left;
        fewer = omega (arith, r.fewer);
        place = r.place;
        path = r.path;
        opened_is = r.opened_is ∙ os;
        array_at = r.array_at;
        stream_at = r.stream_at;
        long = r.long;
        related = related;
      }

  -- a rule that takes a statement of each program, and what comes after it
  closed_both : {n : ℕ} {c d z : Place} {t u : Block} {i j : ℕ} (o o₂ : Op) → (b : Blocks c t u i j)
      → said K.array_program c.array ≡ does o → said K.stream_program c.stream ≡ does o₂
      → d.array ≡ c.array + 1 → d.stream ≡ c.stream + 1 → d.opened ≡ c.opened → Long K d.ledger
      → (OpFits (array_scope K) o → OpFits (stream_scope K) o₂ → (a : Counters) → Chosen c.opened a → (x y : State) → Sim K e c.ledger a.values x y → Related K e d.ledger a.values (step e c.array o a x) (step e₂ c.stream o₂ a y))
      → ((t' u' : Block) → Blocks d t' u' i j → Closed n d z t' u' i j)
      → Closed (suc n) c z t u i j
  unfolding run
  closed_both {n} {c} {d} {z} {t} {u} {i} {j} o o₂ b h g at₁ at₂ os long keep rec =
      let fa = front_plain b.array_block h in
      let fs = front_plain b.stream_block g in
      let r = rec fa.rest fs.rest
      (blocks_on b os long
      (subst (λ k. ReadBlock (array_scope K) K.array_program fa.rest b.array_open k i) (sym (at₁ ∙ add-one c.array)) fa.more)
      (subst (λ k. ReadBlock (stream_scope K) K.stream_program fs.rest b.stream_open k j) (sym (at₂ ∙ add-one c.stream)) fs.more)) in
      closed_on os r λ a ch x y s.
      subst₂ (λ t u. Related K e r.place.ledger a.values (run e t a x) (run e₂ u a y)) (sym fa.is) (sym fs.is)
      (then_both (λ x. run e fa.rest a x) (λ y. run e₂ fs.rest a y) (keep fa.fits fs.fits a ch x y s) λ x' y' s'. r.related a (subst (λ os. Chosen os a) (sym os) ch) x' y' s')

  -- a rule that takes a statement of the stream program alone
  closed_stream : {n : ℕ} {c d z : Place} {t u : Block} {i j : ℕ} (o₂ : Op) → (b : Blocks c t u i j)
      → said K.stream_program c.stream ≡ does o₂
      → d.array ≡ c.array + 0 → d.stream ≡ c.stream + 1 → d.opened ≡ c.opened → Long K d.ledger
      → (OpFits (stream_scope K) o₂ → (a : Counters) → Chosen c.opened a → (x y : State) → Sim K e c.ledger a.values x y → Related K e d.ledger a.values (ok x) (step e₂ c.stream o₂ a y))
      → ((t' u' : Block) → Blocks d t' u' i j → Closed n d z t' u' i j)
      → Closed (suc n) c z t u i j
  unfolding run ◌>>=◌
  closed_stream {n} {c} {d} {z} {t} {u} {i} {j} o₂ b g at₁ at₂ os long keep rec =
      let fs = front_plain b.stream_block g in
      let r = rec t fs.rest
      (blocks_on b os long
      (subst (λ k. ReadBlock (array_scope K) K.array_program t b.array_open k i) (sym (at₁ ∙ add-zero c.array)) b.array_block)
      (subst (λ k. ReadBlock (stream_scope K) K.stream_program fs.rest b.stream_open k j) (sym (at₂ ∙ add-one c.stream)) fs.more)) in
      closed_on os r λ a ch x y s.
      subst (λ u. Related K e r.place.ledger a.values (run e t a x) (run e₂ u a y)) (sym fs.is)
      (then_both {r = ok x} (λ x. run e t a x) (λ y. run e₂ fs.rest a y) (keep fs.fits a ch x y s) λ x' y' s'. r.related a (subst (λ os. Chosen os a) (sym os) ch) x' y' s')

  -- ---- an if

  choose_both : (M : Ledger) (a : Counters) (i j p : ℕ) (x y : State) (f f' g g' : State → Result Stuck State) → content x p ≡ content y p → x.output ≡ put_back K y.output
      → Related K e M a.values (f x) (f' y) → Related K e M a.values (g x) (g' y) → Related K e M a.values (choose i p f g x) (choose j p f' g' y)
  unfolding choose get word because ◌>>=◌
  choose_both M a i j p x y f f' g g' z o h k = by (content x p) (content y p) z
    where
      chosen : (t : Bool) → Related K e M a.values (cond t g f x) (cond t g' f' y)
      chosen true = k
      chosen false = h

      by : (u v : Option ℕ) → u ≡ v → Related K e M a.values (because (λ r. stuck r i x) (word u) >>= λ w. cond (eqb w 0) g f x) (because (λ r. stuck r j y) (word v) >>= λ w. cond (eqb w 0) g' f' y)
      by none v z = subst (λ v. Related K e M a.values (stop (stuck 31 i x)) (because (λ r. stuck r j y) (word v) >>= λ w. cond (eqb w 0) g' f' y)) z (both_stick (inl refl) o)
      by (some w) v z = subst (λ v. Related K e M a.values (cond (eqb w 0) g f x) (because (λ r. stuck r j y) (word v) >>= λ w. cond (eqb w 0) g' f' y)) z (chosen (eqb w 0))

  -- ---- the rule that closes a block

  -- a rule 1 takes a plain statement
  pub does_something : (a : Rec) → sets ≤ a.code → a.code ≤ works → kind (statement a) ≡ 0
  unfolding kind
  does_something a l h = by (one_of_three a.code l h)
    where
      by : (a.code ≡ sets) ⊎ ((a.code ≡ copies) ⊎ (a.code ≡ works)) → kind (statement a) ≡ 0
      by (inl z) = ap kind (says_set a z)
      by (inr (inl z)) = ap kind (says_copy a z)
      by (inr (inr z)) = ap kind (says_work a z)

  -- where neither program has another statement next than an else or an end, only rules 9 and 10 may come next
  pub only_closing : (P : After → Type 0) (w : Place) → (kind (said K.array_program w.array) < 3 → ⊥) → (kind (said K.stream_program w.stream) < 3 → ⊥)
      → (said K.array_program w.array ≡ else → Leads P (else_line w.opened w)) → (said K.array_program w.array ≡ end → Leads P (end_line w.opened w))
      → (r : Rule) → Leads P (line K w r (next_array K w) (next_stream K w))
  unfolding Leads line kind
  only_closing P w no_array no_stream by_else by_end = by
    where
      low : {s t : Statement} (n : ℕ) → s ≡ t → kind t ≡ n → n < 3 → kind s < 3
      low n z k l = omega (arith, ap kind z)

      by : (r : Rule) → Leads P (line K w r (next_array K w) (next_stream K w))
      by Rule.same_rule = λ (l, h, z). absurd (no_array (low 0 (array_says w) (does_something (next_array K w) l h) (omega arith)))
      by Rule.read_rule = λ (fa, fs, p, q) b z. absurd (no_array (low 0 (array_says w) (ap kind (says_load (next_array K w) fa)) (omega arith)))
      by Rule.fill_rule = λ (fs, p) b. absurd (no_stream (low 0 (stream_says w) (ap kind (says_read (next_stream K w) fs)) (omega arith)))
      by Rule.use_rule = λ (fa, fs, p, q) h. absurd (no_array (low 0 (array_says w) (ap kind (says_load (next_array K w) fa)) (omega arith)))
      by Rule.move_rule = λ (fs, p, q) h. absurd (no_stream (low 0 (stream_says w) (ap kind (says_copy (next_stream K w) fs)) (omega arith)))
      by Rule.write_rule = λ (fa, fs, p, q) b z. absurd (no_array (low 0 (array_says w) (ap kind (says_store (next_array K w) fa)) (omega arith)))
      by Rule.for_rule = λ (fa, fs, p, q, k, h) r. absurd (no_array (low 1 (array_says w) (ap kind (says_for (next_array K w) fa)) (omega arith)))
      by Rule.if_rule = λ (fa, fs, p). absurd (no_array (low 2 (array_says w) (ap kind (says_if (next_array K w) fa)) (omega arith)))
      by Rule.else_rule = λ (fa, fs). by_else (array_says w ∙ says_else (next_array K w) fa)
      by Rule.end_rule = λ (fa, fs). by_end (array_says w ∙ says_end (next_array K w) fa)
      by Rule.no_rule = tt

  -- an end is no statement that another rule takes, and neither is an else
  end_closes : {s : Statement} → s ≡ end → kind s < 3 → ⊥
  unfolding kind
  end_closes e l = omega (arith, ap kind e)

  else_closes : {s : Statement} → s ≡ else → kind s < 3 → ⊥
  unfolding kind
  else_closes e l = omega (arith, ap kind e)

  end_no_else : {s : Statement} → s ≡ end → s ≡ else → ⊥
  unfolding kind
  end_no_else x y = unlike (sym y ∙ x) (λ k. omega arith)

  -- what the closing rule asks and where it leads, by the block that it closes
  closes_for : {w d : Place} {l : Loop} {rows : Ledger} {os : List Opened} → Step K w d → said K.array_program w.array ≡ end → said K.stream_program w.stream ≡ end
      → w.opened ≡ Opened.in_for l rows ∷ os
      → RowsTrue (loops (Opened.in_for l rows ∷ os)) (each (moved_by (length (loops os)) l.step) rows) w.ledger × (d ≡ went 1 1 1 os (each (put_at (length (loops os)) (limit l)) rows) w)
  closes_for {w} {d} {l} {rows} {os} s x y e =
      step_leads (Going Kept) (only_closing (Going Kept) w (end_closes x) (end_closes y) (λ z. absurd (end_no_else x z)) (λ z. subst (λ os. Leads (Going Kept) (end_line os w)) (sym e) kept)) s
    where
      Kept : Place → Type 0
      Kept d = RowsTrue (loops (Opened.in_for l rows ∷ os)) (each (moved_by (length (loops os)) l.step) rows) w.ledger × (d ≡ went 1 1 1 os (each (put_at (length (loops os)) (limit l)) rows) w)

      kept : Leads (Going Kept) (end_line (Opened.in_for l rows ∷ os) w)
      kept = unfold Leads end_line in λ r. (subst (λ os'. RowsTrue (loops os') (each (moved_by (length (loops os)) l.step) rows) w.ledger) e r, refl)

  closes_first : {w d : Place} {start : Ledger} {os : List Opened} → Step K w d → said K.array_program w.array ≡ else → said K.stream_program w.stream ≡ else
      → w.opened ≡ Opened.in_if start ∷ os
      → d ≡ went 1 1 1 (Opened.in_else w.ledger ∷ os) start w
  closes_first {w} {d} {start} {os} s x y e =
      step_leads (Going Turned) (only_closing (Going Turned) w (else_closes x) (else_closes y) (λ z. subst (λ os. Leads (Going Turned) (else_line os w)) (sym e) turned) (λ z. absurd (end_no_else z x))) s
    where
      Turned : Place → Type 0
      Turned d = d ≡ went 1 1 1 (Opened.in_else w.ledger ∷ os) start w

      turned : Leads (Going Turned) (else_line (Opened.in_if start ∷ os) w)
      turned = unfold Leads else_line in refl

  closes_second : {w d : Place} {first : Ledger} {os : List Opened} → Step K w d → said K.array_program w.array ≡ end → said K.stream_program w.stream ≡ end
      → w.opened ≡ Opened.in_else first ∷ os
      → PositionsEqual (loops os) first w.ledger × (d ≡ went 1 1 1 os (merged (loops os) first w.ledger) w)
  unfolding loops
  closes_second {w} {d} {first} {os} s x y e =
      step_leads (Going Met) (only_closing (Going Met) w (end_closes x) (end_closes y) (λ z. absurd (end_no_else x z)) (λ z. subst (λ os. Leads (Going Met) (end_line os w)) (sym e) met)) s
    where
      Met : Place → Type 0
      Met d = PositionsEqual (loops os) first w.ledger × (d ≡ went 1 1 1 os (merged (loops os) first w.ledger) w)

      met : Leads (Going Met) (end_line (Opened.in_else first ∷ os) w)
      met = unfold Leads end_line in λ p. (subst (λ os. PositionsEqual (loops os) first w.ledger) e p, ap (λ o. went 1 1 1 os (merged (loops o) first w.ledger) w) e)

  -- a path from a place with a block open has a first step
  first_step : {n : ℕ} {w z : Place} {o : Opened} {os : List Opened} → Path K n w z → Finished K z → w.opened ≡ o ∷ os → (m : ℕ) × (d : Place) × (n ≡ suc m) × Step K w d × Path K m d z
  first_step {o} {os} stays f e = absurd (let both : [] ≡ o ∷ os = sym (at_end f).closed ∙ e in let n : ◌≡◌ {A = ℕ} 0 1 = cc in omega arith)
  first_step (steps {n = m} {d = d} s p) f e = (m, d, refl, s, p)

  -- what the recursion gives for fewer steps
  abbrev Fewer : ℕ → Place → Type 0
  Fewer k z = (m : ℕ) (d : Place) → m ≤ k → Path K m d z → (t u : Block) (i j : ℕ) → Blocks d t u i j → Closed m d z t u i j

  -- ---- rule 7, up to what comes after its end

  same_loop : (a s : Rec) → s.p ≡ a.p → s.q ≡ a.q → s.k ≡ a.k → loop_of s ≡ loop_of a
  unfolding loop_of
  same_loop a s p q k = λ i. loop_of (record { code = a.code; p = p i; q = q i; k = k i; x = a.x })

  first_counter : (l : Loop) → counter l 0 ≡ l.first
  unfolding counter
  first_counter l = ap (λ z. l.first +ℤ z) (*ℤ-zero l.step) ∙ +ℤ_idr l.first

  -- the loop, given what is known of its body and of what comes after it
  loop_related : {n m : ℕ} {z d : Place} {t u : Block} {i j : ℕ} (c : Place) (l : Loop) (rows : Ledger) → Long K rows → length (loops c.opened) < 4
      → RowsTrue (loops c.opened) (each (put_at (level c) l.first) rows) c.ledger
      → {bo so : List Open} (A : LoopFront (array_scope K) K.array_program bo c.array i l t) (S : LoopFront (stream_scope K) K.stream_program so c.stream j l u)
      → {c' : Place} → c'.opened ≡ Opened.in_for l rows ∷ c.opened → c'.ledger ≡ rows
      → (inner : Closed n c' z A.body S.body A.end_at S.end_at)
      → RowsTrue (loops (Opened.in_for l rows ∷ c.opened)) (each (moved_by (level c) l.step) rows) inner.place.ledger
      → d.opened ≡ c.opened → d.ledger ≡ each (put_at (level c) (limit l)) rows
      → (after : Closed m d z A.rest S.rest i j)
      → (a : Counters) → Chosen c.opened a → (x y : State) → Sim K e c.ledger a.values x y → Related K e after.place.ledger a.values (run e t a x) (run e₂ u a y)
  unfolding run
  loop_related c l rows long low entry A S in_opened in_ledger inner kept opened ledger after a ch x y sim =
      subst₂ (λ t u. Related K e after.place.ledger a.values (run e t a x) (run e₂ u a y)) (sym A.is) (sym S.is)
      (then_both (λ x. run e A.rest a x) (λ y. run e₂ S.rest a y)
      (passes_kept l rows inner.place.ledger a (level c) ch.level_is (omega (arith, counters_four ch, low)) long.positions long.buffers (λ m h. one_value_here (chosen_pass l rows m h low ch)) kept
      (λ m x. run e A.body (in_pass l a m) x) (λ m y. run e₂ S.body (in_pass l a m) y)
      (λ m h x y s. inner.related (in_pass l a m) (subst (λ os. Chosen os (in_pass l a m)) (sym in_opened) (chosen_pass l rows m h low ch)) x y (subst (λ L. Sim K e L (in_pass l a m).values x y) (sym in_ledger) s))
      l.passes 0 (zero-add l.passes) x y start)
      λ x' y' s. after.related a (subst (λ os. Chosen os a) (sym opened) ch) x' y' (subst (λ L. Sim K e L a.values x' y') (sym ledger) s))
    where
      start : Sim K e (each (put_at (level c) (counter l 0)) rows) a.values x y
      start =
          subst (λ v. Sim K e (each (put_at (level c) v) rows) a.values x y) (sym (first_counter l))
          (sim_turn (rows_values K rows long.positions long.buffers (put_at (level c) l.first) c.ledger a.values (one_value_here ch) entry) sim)

  -- the place after a block: its place, what is open there and its ledger
  record AfterBlock (w d : Place) (i j : ℕ) (os : List Opened) (L : Ledger) : Type 0 where
    array_at : d.array ≡ suc i
    stream_at : d.stream ≡ suc j
    opened : d.opened ≡ os
    ledger : d.ledger ≡ L

  after_block : (w d : Place) (os : List Opened) (L : Ledger) {i j : ℕ} → d ≡ went 1 1 1 os L w → w.array ≡ i → w.stream ≡ j → AfterBlock w d i j os L
  unfolding went
  after_block w d os L z p q = record {
    array_at = ap (λ d. d.array) z ∙ ap (λ n. n + 1) p ∙ add-one _;
    stream_at = ap (λ d. d.stream) z ∙ ap (λ n. n + 1) q ∙ add-one _;
    opened = ap (λ d. d.opened) z;
    ledger = ap (λ d. d.ledger) z;
  }

  -- the blocks after a closing rule
  blocks_after : {w d : Place} {i j i' j' : ℕ} {os : List Opened} {L : Ledger} {t u : Block} (bo so : List Open) → AfterBlock w d i' j' os L
      → ReadBlock (array_scope K) K.array_program t bo (suc i') i → ReadBlock (stream_scope K) K.stream_program u so (suc j') j
      → open_loops bo ≡ length (loops os) → Long K L → Blocks d t u i j
  blocks_after {i} {j} {t} {u} bo so h a s levels long = record {
    array_open = bo;
    stream_open = so;
    array_block = subst (λ m. ReadBlock (array_scope K) K.array_program t bo m i) (sym h.array_at) a;
    stream_block = subst (λ m. ReadBlock (stream_scope K) K.stream_program u so m j) (sym h.stream_at) s;
    levels = levels ∙ ap (λ os. length (loops os)) (sym h.opened);
    long = subst (Long K) (sym h.ledger) long;
  }

  -- from a body that is done to what comes after the loop
  after_loop : {n : ℕ} {c z : Place} {t u : Block} {i j : ℕ} (l : Loop) (rows : Ledger) → Finished K z → (b : Blocks c t u i j) → Fewer n z
      → Long K rows → length (loops c.opened) < 4 → RowsTrue (loops c.opened) (each (put_at (level c) l.first) rows) c.ledger
      → (A : LoopFront (array_scope K) K.array_program b.array_open c.array i l t) (S : LoopFront (stream_scope K) K.stream_program b.stream_open c.stream j l u)
      → {c' : Place} → c'.opened ≡ Opened.in_for l rows ∷ c.opened → c'.ledger ≡ rows
      → (inner : Closed n c' z A.body S.body A.end_at S.end_at)
      → Closed (suc n) c z t u i j
  after_loop {n} {c} {z} {t} {u} {i} {j} l rows fin b rec long low entry A S in_opened in_ledger inner = go (first_step inner.path fin (inner.opened_is ∙ in_opened))
    where
      w : Place
      w = inner.place

      ends : said K.array_program inner.place.array ≡ end
      ends = ap (said K.array_program) inner.array_at ∙ A.ends

      finish : {m : ℕ} {d : Place} → inner.left ≡ suc m → Path K m d z
          → RowsTrue (loops (Opened.in_for l rows ∷ c.opened)) (each (moved_by (level c) l.step) rows) inner.place.ledger → AfterBlock inner.place d A.end_at S.end_at c.opened (each (put_at (level c) (limit l)) rows)
          → Closed (suc n) c z t u i j
      finish {m} {d} count more kept h = joined (rec m d (omega (arith, inner.fewer, count)) more A.rest S.rest i j (blocks_after b.array_open b.stream_open h A.more S.more b.levels (long_each (put_at (level c) (limit l)) long)))
        where
          joined : Closed m d z A.rest S.rest i j → Closed (suc n) c z t u i j
          joined after = record {
            left = after.left;
            fewer = omega (arith, after.fewer, inner.fewer, count);
            place = after.place;
            path = after.path;
            opened_is = after.opened_is ∙ h.opened;
            array_at = after.array_at;
            stream_at = after.stream_at;
            long = after.long;
            related = loop_related c l rows long low entry A S in_opened in_ledger inner kept h.opened h.ledger after;
          }

      go : (m : ℕ) × (d : Place) × (inner.left ≡ suc m) × Step K inner.place d × Path K m d z → Closed (suc n) c z t u i j
      go (m, d, count, st, more) =
          let (kept, d_is) = closes_for st ends (ap (said K.stream_program) inner.stream_at ∙ S.ends) (inner.opened_is ∙ in_opened) in
          finish count more kept (after_block inner.place d c.opened (each (put_at (level c) (limit l)) rows) d_is inner.array_at inner.stream_at)

  closed_loop : {n : ℕ} {c z : Place} {t u : Block} {i j : ℕ} (a s : Rec) → said K.array_program c.array ≡ statement a → said K.stream_program c.stream ≡ statement s
      → a.code ≡ fors → s.code ≡ fors → s.p ≡ a.p → s.q ≡ a.q → s.k ≡ a.k → HoldRows K (suc (level c)) (hold_rows K c)
      → RowsTrue (loops c.opened) (each (put_at (level c) (loop_of a).first) (rows_here K c)) c.ledger
      → Path K n (went (suc (row_count K)) 1 1 (Opened.in_for (loop_of a) (rows_here K c) ∷ c.opened) (rows_here K c) c) z → Finished K z
      → Blocks c t u i j → Fewer n z → Closed (suc n) c z t u i j
  unfolding went loops open_loops
  closed_loop {n} {c} {z} {t} {u} {i} {j} a s array_is stream_is fa fs p q k hold entry path fin b rec = go
      (front_loop b.array_block (array_is ∙ says_for a fa))
      (front_loop b.stream_block (stream_is ∙ says_for s fs ∙ ap for (same_loop a s p q k)))
    where
      long : Long K (rows_here K c)
      long = long_rows (suc (level c)) c hold

      go : LoopFront (array_scope K) K.array_program b.array_open c.array i (loop_of a) t → LoopFront (stream_scope K) K.stream_program b.stream_open c.stream j (loop_of a) u → Closed (suc n) c z t u i j
      go A S = after_loop (loop_of a) (rows_here K c) fin b rec long (omega (arith, A.room.loops, b.levels)) entry A S refl refl
          (rec n _ (omega arith) path A.body S.body A.end_at S.end_at (record {
            array_open = open_for (loop_of a).passes ∷ b.array_open;
            stream_open = open_for (loop_of a).passes ∷ b.stream_open;
            array_block = subst (λ m. ReadBlock (array_scope K) K.array_program A.body (open_for (loop_of a).passes ∷ b.array_open) m A.end_at) (sym (add-one c.array)) A.inner;
            stream_block = subst (λ m. ReadBlock (stream_scope K) K.stream_program S.body (open_for (loop_of a).passes ∷ b.stream_open) m S.end_at) (sym (add-one c.stream)) S.inner;
            levels = ap suc b.levels ∙ sym (add-one (length (loops c.opened))) ∙ sym (length-append (loops c.opened) (loop_of a ∷ []));
            long = long;
          }))

  -- ---- rule 8, up to what comes after its end

  branch_related : {n m k : ℕ} {z d d₂ : Place} {t u : Block} {i j : ℕ} (c : Place) (p : ℕ)
      → {bo so : List Open} (A : BranchFront (array_scope K) K.array_program bo c.array i p t) (S : BranchFront (stream_scope K) K.stream_program so c.stream j p u)
      → {c' : Place} → loops c'.opened ≡ loops c.opened → c'.ledger ≡ c.ledger → (first : Closed n c' z A.first S.first A.else_at S.else_at)
      → loops d.opened ≡ loops c.opened → d.ledger ≡ c.ledger → (second : Closed m d z A.second S.second A.end_at S.end_at)
      → PositionsEqual (loops c.opened) first.place.ledger second.place.ledger
      → d₂.opened ≡ c.opened → d₂.ledger ≡ merged (loops c.opened) first.place.ledger second.place.ledger
      → (after : Closed k d₂ z A.rest S.rest i j)
      → (a : Counters) → Chosen c.opened a → (x y : State) → Sim K e c.ledger a.values x y → Related K e after.place.ledger a.values (run e t a x) (run e₂ u a y)
  unfolding run
  branch_related c p A S same_loops₁ same_ledger₁ first same_loops₂ same_ledger₂ second positions opened ledger after a ch x y sim =
      subst₂ (λ t u. Related K e after.place.ledger a.values (run e t a x) (run e₂ u a y)) (sym A.is) (sym S.is)
      (then_both (λ x. run e A.rest a x) (λ y. run e₂ S.rest a y)
      (choose_both (merged (loops c.opened) L M) a c.array c.stream p x y (λ x. run e A.first a x) (λ y. run e₂ S.first a y) (λ x. run e A.second a x) (λ y. run e₂ S.second a y) (sim.registers p A.fits) sim.outputs
      (turn_both (first.related a (chosen_by same_loops₁ ch) x y (subst (λ L. Sim K e L a.values x y) (sym same_ledger₁) sim)) (λ x' y' s. sim_turn (first_values (loops c.opened) K L M a.values first.long.positions first.long.buffers second.long.buffers) s))
      (turn_both (second.related a (chosen_by same_loops₂ ch) x y (subst (λ L. Sim K e L a.values x y) (sym same_ledger₂) sim)) (λ x' y' s. sim_turn (second_values (loops c.opened) K L M a.values first.long.positions first.long.buffers second.long.buffers (one_value_here ch) positions) s)))
      λ x' y' s. after.related a (subst (λ os. Chosen os a) (sym opened) ch) x' y' (subst (λ L. Sim K e L a.values x' y') (sym ledger) s))
    where
      L : Ledger
      L = first.place.ledger

      M : Ledger
      M = second.place.ledger

      chosen_by : {os os' : List Opened} → loops os' ≡ loops os → Chosen os a → Chosen os' a
      chosen_by z h = record {
        values = h.values;
        choice = subst (λ ls. Choice ls h.values) (sym z) h.choice;
        zeros = h.zeros;
        counters_are = h.counters_are;
        four = h.four;
        level_is = h.level_is ∙ ap length (sym z);
      }

  -- from a second branch that is done to what comes after the if
  after_branch : {n m : ℕ} {c z d : Place} {t u : Block} {i j p : ℕ} → Finished K z → (b : Blocks c t u i j) → Fewer n z
      → (A : BranchFront (array_scope K) K.array_program b.array_open c.array i p t) (S : BranchFront (stream_scope K) K.stream_program b.stream_open c.stream j p u)
      → {c' : Place} → loops c'.opened ≡ loops c.opened → c'.ledger ≡ c.ledger → (first : Closed n c' z A.first S.first A.else_at S.else_at)
      → loops d.opened ≡ loops c.opened → d.ledger ≡ c.ledger → (second : Closed m d z A.second S.second A.end_at S.end_at) → m < n
      → d.opened ≡ Opened.in_else first.place.ledger ∷ c.opened
      → Closed (suc n) c z t u i j
  after_branch {n} {m} {c} {z} {d} {t} {u} {i} {j} {p} fin b rec A S loops₁ ledger₁ first loops₂ ledger₂ second fewer opened_is = go (first_step second.path fin (second.opened_is ∙ opened_is))
    where
      ends : said K.array_program second.place.array ≡ end
      ends = ap (said K.array_program) second.array_at ∙ A.ends

      finish : {k : ℕ} {d₂ : Place} → second.left ≡ suc k → Path K k d₂ z → PositionsEqual (loops c.opened) first.place.ledger second.place.ledger
          → AfterBlock second.place d₂ A.end_at S.end_at c.opened (merged (loops c.opened) first.place.ledger second.place.ledger) → Closed (suc n) c z t u i j
      finish {k} {d₂} count more positions h = joined (rec k d₂ (omega (arith, second.fewer, count)) more A.rest S.rest i j (blocks_after b.array_open b.stream_open h A.more S.more b.levels (long_merged (loops c.opened) first.long second.long)))
        where
          joined : Closed k d₂ z A.rest S.rest i j → Closed (suc n) c z t u i j
          joined after = record {
            left = after.left;
            fewer = omega (arith, after.fewer, second.fewer, count);
            place = after.place;
            path = after.path;
            opened_is = after.opened_is ∙ h.opened;
            array_at = after.array_at;
            stream_at = after.stream_at;
            long = after.long;
            related = branch_related c p A S loops₁ ledger₁ first loops₂ ledger₂ second positions h.opened h.ledger after;
          }

      go : (k : ℕ) × (d₂ : Place) × (second.left ≡ suc k) × Step K second.place d₂ × Path K k d₂ z → Closed (suc n) c z t u i j
      go (k, d₂, count, st, more) =
          let (positions, d_is) = closes_second st ends (ap (said K.stream_program) second.stream_at ∙ S.ends) (second.opened_is ∙ opened_is) in
          finish count more positions (after_block second.place d₂ c.opened (merged (loops c.opened) first.place.ledger second.place.ledger) d_is second.array_at second.stream_at)

  -- from a first branch that is done to the second
  second_branch : {n : ℕ} {c z : Place} {t u : Block} {i j p : ℕ} → Finished K z → (b : Blocks c t u i j) → Fewer n z
      → (A : BranchFront (array_scope K) K.array_program b.array_open c.array i p t) (S : BranchFront (stream_scope K) K.stream_program b.stream_open c.stream j p u)
      → {c' : Place} → c'.opened ≡ Opened.in_if c.ledger ∷ c.opened → c'.ledger ≡ c.ledger → (first : Closed n c' z A.first S.first A.else_at S.else_at)
      → Closed (suc n) c z t u i j
  unfolding loops open_loops
  second_branch {n} {c} {z} {t} {u} {i} {j} fin b rec A S opened_is ledger_is first = go (first_step first.path fin (first.opened_is ∙ opened_is))
    where
      elses_here : said K.array_program first.place.array ≡ else
      elses_here = ap (said K.array_program) first.array_at ∙ A.elses

      finish : {m : ℕ} {d : Place} → first.left ≡ suc m → Path K m d z → AfterBlock first.place d A.else_at S.else_at (Opened.in_else first.place.ledger ∷ c.opened) c.ledger → Closed (suc n) c z t u i j
      finish {m} {d} count more h =
          after_branch fin b rec A S (ap loops opened_is) ledger_is first (ap loops h.opened) h.ledger
          (rec m d (omega (arith, first.fewer, count)) more A.second S.second A.end_at S.end_at (blocks_after (open_else ∷ b.array_open) (open_else ∷ b.stream_open) h A.other S.other b.levels b.long))
          (omega (arith, first.fewer, count)) h.opened

      go : (m : ℕ) × (d : Place) × (first.left ≡ suc m) × Step K first.place d × Path K m d z → Closed (suc n) c z t u i j
      go (m, d, count, st, more) =
          finish count more (after_block first.place d (Opened.in_else first.place.ledger ∷ c.opened) c.ledger
          (closes_first st elses_here (ap (said K.stream_program) first.stream_at ∙ S.elses) (first.opened_is ∙ opened_is)) first.array_at first.stream_at)

  closed_branch : {n : ℕ} {c z : Place} {t u : Block} {i j : ℕ} (a s : Rec) → said K.array_program c.array ≡ statement a → said K.stream_program c.stream ≡ statement s
      → a.code ≡ ifs → s.code ≡ ifs → s.p ≡ a.p
      → Path K n (went 1 1 1 (Opened.in_if c.ledger ∷ c.opened) c.ledger c) z → Finished K z
      → Blocks c t u i j → Fewer n z → Closed (suc n) c z t u i j
  unfolding went loops open_loops
  closed_branch {n} {c} {z} {t} {u} {i} {j} a s array_is stream_is fa fs p path fin b rec = go
      (front_branch b.array_block (array_is ∙ says_if a fa))
      (front_branch b.stream_block (stream_is ∙ says_if s fs ∙ ap if p))
    where
      go : BranchFront (array_scope K) K.array_program b.array_open c.array i a.p t → BranchFront (stream_scope K) K.stream_program b.stream_open c.stream j a.p u → Closed (suc n) c z t u i j
      go A S = second_branch fin b rec A S refl refl
          (rec n _ (omega arith) path A.first S.first A.else_at S.else_at (record {
            array_open = open_if ∷ b.array_open;
            stream_open = open_if ∷ b.stream_open;
            array_block = subst (λ m. ReadBlock (array_scope K) K.array_program A.first (open_if ∷ b.array_open) m A.else_at) (sym (add-one c.array)) A.inner;
            stream_block = subst (λ m. ReadBlock (stream_scope K) K.stream_program S.first (open_if ∷ b.stream_open) m S.else_at) (sym (add-one c.stream)) S.inner;
            levels = b.levels;
            long = b.long;
          }))

  -- ---- all rules

  -- "R and up are the buffers"
  is_register : (p : ℕ) → K.registers ≤ p → p ≡ K.registers + buffer K p
  unfolding buffer
  is_register p h = omega arith

  -- rule 1
  closed_same : {n : ℕ} {c z : Place} {t u : Block} {i j : ℕ} (a s : Rec) → said K.array_program c.array ≡ statement a → said K.stream_program c.stream ≡ statement s
      → sets ≤ a.code → a.code ≤ works → s ≡ a
      → Path K n (went 1 1 1 c.opened c.ledger c) z → Blocks c t u i j → Fewer n z → Closed (suc n) c z t u i j
  unfolding went
  closed_same {n} {c} {z} {t} {u} {i} {j} a s array_is stream_is low high same path b rec = by (one_of_three a.code low high)
    where
      stream : said K.stream_program c.stream ≡ statement a
      stream = stream_is ∙ ap statement same

      by : (a.code ≡ sets) ⊎ ((a.code ≡ copies) ⊎ (a.code ≡ works)) → Closed (suc n) c z t u i j
      by (inl w) =
          closed_both (File.set a.p (form a)) (File.set a.p (form a)) b (array_is ∙ says_set a w) (stream ∙ says_set a w) refl refl refl b.long
          (λ f g around ch x y sim. keep_set tied few few_arrays around sim c.array c.stream a.p (form a) f.0) (λ t' u' b'. rec n _ (omega arith) path t' u' _ _ b')
      by (inr (inl w)) =
          closed_both (copy a.p a.q) (copy a.p a.q) b (array_is ∙ says_copy a w) (stream ∙ says_copy a w) refl refl refl b.long
          (λ f g around ch x y sim. keep_copy tied few few_arrays around sim c.array c.stream a.p a.q f.0 f.1) (λ t' u' b'. rec n _ (omega arith) path t' u' _ _ b')
      by (inr (inr w)) =
          closed_both (work (operator (get_or a.x 0 0)) a.p a.q a.k) (work (operator (get_or a.x 0 0)) a.p a.q a.k) b (array_is ∙ says_work a w) (stream ∙ says_work a w) refl refl refl b.long
          (λ f g around ch x y sim. keep_work tied few few_arrays around sim c.array c.stream (operator (get_or a.x 0 0)) a.p a.q a.k f.0 f.1 f.2) (λ t' u' b'. rec n _ (omega arith) path t' u' _ _ b')

  -- rules 9 and 10 close the block
  closes_here : (n : ℕ) (z : Place) {c : Place} {t u : Block} {i j : ℕ} → Blocks c t u i j → StopsAt K.array_program c.array → StopsAt K.stream_program c.stream
      → (l : Line) → Leads (Going (λ d. Step K c d → Path K n d z → Closed (suc n) c z t u i j)) l
  closes_here n z {c} {t} {u} {i} {j} b x y = leads_all (Going Q) closed
    where
      Q : Place → Type 0
      Q d = Step K c d → Path K n d z → Closed (suc n) c z t u i j

      closed : (e : After) → Going Q e
      closed (goes_on d) = λ st path. closed_here (steps st path) b x y
      closed accepted = tt

  closed_rule : {n : ℕ} {c z : Place} {t u : Block} {i j : ℕ} (a s : Rec) → said K.array_program c.array ≡ statement a → said K.stream_program c.stream ≡ statement s
      → Finished K z → Blocks c t u i j → Fewer n z → (r : Rule) → Leads (Going (λ d. Step K c d → Path K n d z → Closed (suc n) c z t u i j)) (line K c r a s)
  unfolding Leads line went array read_step write_step fill_step move_step
  closed_rule a s array_is stream_is fin b rec Rule.same_rule = λ (low, high, same) st path. closed_same a s array_is stream_is low high same path b rec
  closed_rule {n} {c} a s array_is stream_is fin b rec Rule.read_rule = λ (fa, fs, p, q) below at st path.
      closed_both (load a.p a.q (form a)) (read a.p a.q) b (array_is ∙ says_load a fa) (stream_is ∙ says_read s fs ∙ (λ i. does (read (p i) (q i)))) refl refl refl (long_pass a.q b.long)
      (λ f g around ch x y sim. keep_read tied few few_arrays around sim c.array c.stream a.p a.q (form a) f.0 f.1.there f.1.its_side (below_here _ _ ch below) ((one_value_here ch).equal_forms _ _ at)) (λ t' u' b'. rec n _ (omega arith) path t' u' _ _ b')
  closed_rule {n} {c} a s array_is stream_is fin b rec Rule.fill_rule = λ (fs, p) below st path.
      closed_stream (read (K.registers + buffer K s.p) s.q) b (stream_is ∙ says_read s fs ∙ ap (λ p. does (read p s.q)) (is_register s.p p)) refl refl refl (long_pass s.q (long_hold (buffer K s.p) _ b.long))
      (λ g around ch x y sim. keep_fill tied few few_arrays around sim c.stream (buffer K s.p) s.q (omega (arith, g.0)) g.1.there g.1.its_side (below_here _ _ ch below)) (λ t' u' b'. rec n _ (omega arith) path t' u' _ _ b')
  closed_rule {n} {c} a s array_is stream_is fin b rec Rule.use_rule = λ (fa, fs, p, q) holds st path.
      let (h, at, same) = holds_says holds in
      closed_both (load a.p a.q (form a)) (copy a.p (K.registers + buffer K s.q)) b (array_is ∙ says_load a fa) (stream_is ∙ says_copy s fs ∙ (λ i. does (copy (p i) (is_register s.q q i)))) refl refl refl b.long
      (λ f g around ch x y sim. keep_use tied few few_arrays around sim c.array c.stream a.p (buffer K s.q) a.q (form a) h f.0 at ((one_value_here ch).equal_forms _ _ same)) (λ t' u' b'. rec n _ (omega arith) path t' u' _ _ b')
  closed_rule {n} {c} a s array_is stream_is fin b rec Rule.move_rule = λ (fs, p, q) (h, at) st path.
      closed_stream (copy (K.registers + buffer K s.p) (K.registers + buffer K s.q)) b (stream_is ∙ says_copy s fs ∙ (λ i. does (copy (is_register s.p p i) (is_register s.q q i)))) refl refl refl (long_hold (buffer K s.p) _ b.long)
      (λ g around ch x y sim. keep_move tied few few_arrays around sim c.stream (buffer K s.p) (buffer K s.q) h (omega (arith, g.0)) at) (λ t' u' b'. rec n _ (omega arith) path t' u' _ _ b')
  closed_rule {n} {c} a s array_is stream_is fin b rec Rule.write_rule = λ (fa, fs, p, q) below at st path.
      closed_both (store a.p a.q (form a)) (write a.p a.q) b (array_is ∙ says_store a fa) (stream_is ∙ says_write s fs ∙ (λ i. does (write (p i) (q i)))) refl refl refl (long_pass a.q b.long)
      (λ f g around ch x y sim. keep_write tied few few_arrays around sim c.array c.stream a.p a.q (form a) f.0 f.1.there f.1.its_side (below_here _ _ ch below) ((one_value_here ch).equal_forms _ _ at)) (λ t' u' b'. rec n _ (omega arith) path t' u' _ _ b')
  closed_rule a s array_is stream_is fin b rec Rule.for_rule = λ (fa, fs, p, q, k, hold) entry st path. closed_loop a s array_is stream_is fa fs p q k hold entry path fin b rec
  closed_rule a s array_is stream_is fin b rec Rule.if_rule = λ (fa, fs, p) st path. closed_branch a s array_is stream_is fa fs p path fin b rec
  closed_rule {n} {c} {z} a s array_is stream_is fin b rec Rule.else_rule = λ (fa, fs). closes_here n z b (at_an_else (array_is ∙ says_else a fa)) (at_an_else (stream_is ∙ says_else s fs)) (else_line c.opened c)
  closed_rule {n} {c} {z} a s array_is stream_is fin b rec Rule.end_rule = λ (fa, fs). closes_here n z b (at_an_end (array_is ∙ says_end a fa)) (at_an_end (stream_is ∙ says_end s fs)) (end_line c.opened c)
  closed_rule a s array_is stream_is fin b rec Rule.no_rule = tt

  closed_path : {m : ℕ} {c z : Place} {t u : Block} {i j : ℕ} → Path K m c z → Finished K z → Blocks c t u i j → ((n : ℕ) → m ≡ suc n → Fewer n z) → Closed m c z t u i j
  closed_path {c} stays fin b rec = closed_here stays b (past_the_last (at_end fin).taken.array_program) (past_the_last (at_end fin).taken.stream_program)
  closed_path {c} {z} {t} {u} {i} {j} (steps {n = n} s p) fin b rec =
      step_leads (Going (λ d. Step K c d → Path K n d z → Closed (suc n) c z t u i j)) (closed_rule (next_array K c) (next_stream K c) (array_says c) (stream_says c) fin b (rec n refl)) s s p

  -- from any place of a derivation that is finished; k bounds the steps left
  pub closes : (k m : ℕ) (c z : Place) → m ≤ k → Path K m c z → Finished K z → (t u : Block) (i j : ℕ) → Blocks c t u i j → Closed m c z t u i j
  closes zero m c z h p fin t u i j b = closed_path p fin b (λ n e. absurd (omega arith))
  closes (suc k) m c z h p fin t u i j b = closed_path p fin b (λ n e l d f q t u i j b. closes k l d z (omega arith) q fin t u i j b)
