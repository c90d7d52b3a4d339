-- Demand 2: the walk reaches what the rules reach. Along the walk every open loop has a pass, and each rule takes records of the derivation, so the
-- number of rules that the walk may take is enough.
use mathlib.Core.Path.{◌≡◌, refl, sym, ap, subst, ◌∙◌}
use mathlib.Core.Bool.{Bool, true, false}
use mathlib.Core.List.{List, [], ◌∷◌, ◌++◌}
use Prim.Native.Nat.{ℕ, zero, suc, ◌+◌, ◌<◌, ◌≤◌}
use native.Mathlib.Omega.{arith}
use lib.Dec.{leb}
use lib.ListN.{length, get_or}
use borrow.Author.Tests.{le-leb}
use Rattle.numbers.specs.Result.{Result, ok, stop, ◌>>=◌, because}
use Rattle.numbers.proofs.Results.{on_at}
use Rattle.forms.specs.Form.{Loop}
use Rattle.forms.proofs.Below.{Turning, none_around, turns}
use Rattle.kernel.specs.File.{Rec, nothing, Kernel, fors, statement, loop_of}
use Rattle.kernel.specs.Reading.{array_scope}
use Rattle.kernel.specs.Derivation.{Opened, in_for, in_if, in_else, Place, beginning, loops, next_rule, next_array, next_stream, went, Rule, same_rule, read_rule, fill_rule, use_rule, move_rule, write_rule, for_rule, if_rule, else_rule, end_rule, no_rule, rule}
use Rattle.kernel.specs.Check.{Refusal, refused_at, at, follow, take_rule, finish, walk, check_kernel}
use Rattle.kernel.specs.Answers.{accepted, refused, checked, checked_file, check}
use Rattle.kernel.specs.Rules.{Step, Follows, here, then, AllTaken, Finished, Derived, AllCounted, After, goes_on, Line, Takes, RefusesFirst, else_line, end_line, line, last_line, asked}
use Rattle.kernel.specs.Guarantees.{StatementFits, LoopFits, Reads}
use Rattle.kernel.specs.Rules as Rules
use Rattle.kernel.proofs.Readable.{file_reads}
use Rattle.kernel.proofs.Sayings.{says_for, fits_at, there_at}
use Rattle.agreement.specs.Exactness.{Exactness, FirstBad, FirstRefusal}
use Rattle.agreement.proofs.Lines.{takes_one, taken_not_refused, first_refuses, Rising, first_lowest, Leads, taken_leads, Answers, takes, refuses}
use Rattle.agreement.proofs.Exact.{line_rises, last_rises, line_answers, last_test, last_answers}

-- ---- what is asked at a place

-- where the derivation is over, and where it is not
abbrev asked_if : Bool → Kernel → Place → Line
asked_if b K c = elim b [ true ↦ last_line K c | false ↦ line K c (rule (next_rule K c).code) (next_array K c) (next_stream K c) ]

asked_rises : (K : Kernel) (c : Place) → Rising 10 (asked K c)
unfolding asked
asked_rises K c = by (leb (length K.derivation) c.rule)
  where
    by : (b : Bool) → Rising 10 (asked_if b K c)
    by true = last_rises K c
    by false = line_rises K c (rule (next_rule K c).code) (next_array K c) (next_stream K c)

-- what holds of all that may come of a rule, whichever it is, holds after a step
pub step_leads : {K : Kernel} {c d : Place} (P : After → Type 0) → ((r : Rule) → Leads P (line K c r (next_array K c) (next_stream K c))) → Step K c d → P (goes_on d)
unfolding asked
step_leads {K} {c} {d} P h s = by (leb (length K.derivation) c.rule) s.takes
  where
    by : (b : Bool) → Takes (asked_if b K c) (goes_on d) → P (goes_on d)
    by true t = absurd (taken_leads Ended (last_line K c) (goes_on d) ended t)
      where
        Ended : After → Type 0
        Ended (goes_on d) = ⊥
        Ended Rules.accepted = Unit

        ended : Leads Ended (last_line K c)
        ended = unfold Leads last_line in (λ t b n. tt)
    by false t = taken_leads P (line K c (rule (next_rule K c).code) (next_array K c) (next_stream K c)) (goes_on d) (h (rule (next_rule K c).code)) t

-- what is said of the place from which the derivation goes on
abbrev pub Going : (Place → Type 0) → After → Type 0
Going P (goes_on d) = P d
Going P Rules.accepted = Unit

-- ---- each rule leads further in the derivation; none is accepted in the place of its end

module _ (K : Kernel) (c : Place) where
  abbrev Further : After → Type 0
  Further (goes_on d) = c.rule < d.rule
  Further Rules.accepted = ⊥

  else_further : (os : List Opened) → Leads Further (else_line os c)
  unfolding Leads else_line went
  else_further [] = tt
  else_further (in_for l rows ∷ os) = tt
  else_further (in_if start ∷ os) = omega arith
  else_further (in_else first ∷ os) = tt

  end_further : (os : List Opened) → Leads Further (end_line os c)
  unfolding Leads end_line went
  end_further [] = tt
  end_further (in_for l rows ∷ os) = λ h. omega arith
  end_further (in_if start ∷ os) = tt
  end_further (in_else first ∷ os) = λ h. omega arith

  line_further : (r : Rule) (a s : Rec) → Leads Further (line K c r a s)
  unfolding Leads line went
  line_further same_rule a s = λ f. omega arith
  line_further read_rule a s = λ f b e. omega arith
  line_further fill_rule a s = λ f b. omega arith
  line_further use_rule a s = λ f h. omega arith
  line_further move_rule a s = λ f h. omega arith
  line_further write_rule a s = λ f b e. omega arith
  line_further for_rule a s = λ f r. omega arith
  line_further if_rule a s = λ f. omega arith
  line_further else_rule a s = λ f. else_further c.opened
  line_further end_rule a s = λ f. end_further c.opened
  line_further no_rule a s = tt

pub step_further : {K : Kernel} {c d : Place} → Step K c d → c.rule < d.rule
step_further {K} {c} s = step_leads (Further K c) (λ r. line_further K c r (next_array K c) (next_stream K c)) s

-- ---- what a finished derivation has

pub record AtEnd (K : Kernel) (c : Place) : Type 0 where
  pub taken : AllTaken K c
  pub closed : c.opened ≡ []
  pub counted : AllCounted K c

pub at_end : {K : Kernel} {c : Place} → Finished K c → AtEnd K c
unfolding asked
at_end {K} {c} f = by (leb (length K.derivation) c.rule) f.takes
  where
    by : (b : Bool) → Takes (asked_if b K c) Rules.accepted → AtEnd K c
    by true t = unfold Takes last_line in (let (taken, (closed, (counted, e))) = t in record { taken = taken; closed = closed; counted = counted })
    by false t =
        absurd (taken_leads (Further K c) (line K c (rule (next_rule K c).code) (next_array K c) (next_stream K c)) Rules.accepted
        (line_further K c (rule (next_rule K c).code) (next_array K c) (next_stream K c)) t)

-- ---- a derivation goes one way

place_of : After → Place → Place
place_of (goes_on d) c = d
place_of Rules.accepted c = c

pub same_step : {K : Kernel} {c d e : Place} → Step K c d → Step K c e → d ≡ e
unfolding place_of
same_step {K} {c} s r = ap (λ x. place_of x c) (takes_one (asked K c) s.takes r.takes)

pub finished_stays : {K : Kernel} {c d : Place} → Finished K c → Step K c d → ⊥
finished_stays {K} {c} {d} f s = clash (takes_one (asked K c) f.takes s.takes)
  where
    clash : Rules.accepted ≡ goes_on d → ⊥
    clash e = let z : ◌≡◌ {A = ℕ} 0 1 = cc in omega arith

-- ---- loops that have a pass

turns_more : {ls : List Loop} (l : Loop) → Turning ls → 0 < l.passes → Turning (ls ++ l ∷ [])
turns_more l none_around h = turns h none_around
turns_more l (turns g t) h = turns g (turns_more l t h)

turns_less : (ls : List Loop) (l : Loop) → Turning (ls ++ l ∷ []) → Turning ls
turns_less [] l t = none_around
turns_less (k ∷ ls) l (turns h t) = turns h (turns_less ls l t)

-- a for of the array program has a pass
pub has_pass : (K : Kernel) → Reads K → (c : Place) {a : Rec} → next_array K c ≡ a → a.code ≡ fors → LoopFits (loop_of a)
unfolding next_array
has_pass K reads c {a} e f =
    subst (λ s. StatementFits (array_scope K) s) (says_for a f)
    (subst (λ a. StatementFits (array_scope K) (statement a)) e
    (fits_at reads.array_program c.array (there_at K.array_program c.array (some (get_or K.array_program c.array nothing).code (ap (λ a. a.code) e ∙ f)))))
  where
    some : (n : ℕ) → n ≡ 8 → 1 ≤ n
    some n e = omega arith

module _ (K : Kernel) (reads : Reads K) (c : Place) (t : Turning (loops c.opened)) where
  abbrev Turns : Place → Type 0
  Turns d = Turning (loops d.opened)

  else_turns : (os : List Opened) → c.opened ≡ os → Leads (Going Turns) (else_line os c)
  unfolding Leads else_line went loops
  else_turns [] e = tt
  else_turns (in_for l rows ∷ os) e = tt
  else_turns (in_if start ∷ os) e = subst (λ os. Turning (loops os)) e t
  else_turns (in_else first ∷ os) e = tt

  end_turns : (os : List Opened) → c.opened ≡ os → Leads (Going Turns) (end_line os c)
  unfolding Leads end_line went loops
  end_turns [] e = tt
  end_turns (in_for l rows ∷ os) e = λ h. turns_less (loops os) l (subst (λ os. Turning (loops os)) e t)
  end_turns (in_if start ∷ os) e = tt
  end_turns (in_else first ∷ os) e = λ h. subst (λ os. Turning (loops os)) e t

  line_turns : (r : Rule) (s : Rec) → Leads (Going Turns) (line K c r (next_array K c) s)
  unfolding Leads line went loops
  line_turns same_rule s = λ f. t
  line_turns read_rule s = λ f b e. t
  line_turns fill_rule s = λ f b. t
  line_turns use_rule s = λ f h. t
  line_turns move_rule s = λ f h. t
  line_turns write_rule s = λ f b e. t
  line_turns for_rule s = λ f r. turns_more (loop_of (next_array K c)) t (has_pass K reads c refl f.0).some
  line_turns if_rule s = λ f. t
  line_turns else_rule s = λ f. else_turns c.opened refl
  line_turns end_rule s = λ f. end_turns c.opened refl
  line_turns no_rule s = tt

  pub step_turns : {d : Place} → Step K c d → Turning (loops d.opened)
  step_turns s = step_leads (Going Turns) (λ r. line_turns r (next_stream K c)) s

-- ---- the walk

-- what a result of the walk means
pub data Outcome (K : Kernel) : Result Refusal (Unit {0}) → Type 0 where
  derived : {t : Unit {0}} → Derived K → Outcome K (ok t)
  bad : {r : Refusal} → FirstBad K r → Outcome K (stop r)

module _ (K : Kernel) (reads : Reads K) where
  -- the first that does not hold, after rules that follow
  first_bad : (c : Place) → Follows K (beginning K) c → {number : ℕ} → RefusesFirst (asked K c) number → Outcome K (stop (refused_at c number))
  first_bad c f {number} h = bad (record {
    place = c;
    rule_is = refl;
    array_is = refl;
    stream_is = refl;
    follows = f;
    no_step = λ d s. taken_not_refused (asked K c) (goes_on d) number s.takes (first_refuses (asked K c) number h);
    not_finished = λ e. taken_not_refused (asked K c) Rules.accepted number e.takes (first_refuses (asked K c) number h);
    applies = record { refuses = first_refuses (asked K c) number h };
    first = record { refuses = h };
    lowest = λ lower a. first_lowest 10 (asked K c) number lower (asked_rises K c) h a.refuses;
  })

  finish_outcome : (c : Place) → Follows K (beginning K) c → Answers {A = Unit {0}} (λ t. Rules.accepted) (asked K c) (last_test K c) → Outcome K (finish K c)
  unfolding finish at last_test
  finish_outcome c f h = by h
    where
      by : {m : Result ℕ (Unit {0})} → Answers {A = Unit {0}} (λ t. Rules.accepted) (asked K c) m → Outcome K (because (refused_at c) m)
      by (takes t) = unfold because in derived (record { last = c; follows = f; finished = record { takes = t } })
      by (refuses r) = unfold because in first_bad c f r

  -- one rule, and what comes after it
  rule_outcome : (n : ℕ) (c : Place) → length K.derivation ≤ c.rule + suc n → Turning (loops c.opened) → Follows K (beginning K) c
      → Answers goes_on (asked K c) (follow K c (rule (next_rule K c).code) (next_array K c) (next_stream K c))
      → ((d : Place) → length K.derivation ≤ d.rule + n → Turning (loops d.opened) → Follows K (beginning K) d → Outcome K (walk K n d))
      → Outcome K (take_rule K c >>= walk K n)
  unfolding take_rule at
  rule_outcome n c enough t f h rec = by h
    where
      goes_further : {d : Place} → Step K c d → Outcome K (walk K n d)
      goes_further {d} s = rec d (omega (arith, step_further s)) (step_turns K reads c t s) (then f s)

      by : {m : Result ℕ Place} → Answers goes_on (asked K c) m → Outcome K (because (refused_at c) m >>= walk K n)
      by (takes s) = unfold because ◌>>=◌ in goes_further (record { takes = s })
      by (refuses r) = unfold because ◌>>=◌ in first_bad c f r

  walk_outcome : (n : ℕ) (c : Place) → length K.derivation ≤ c.rule + n → Turning (loops c.opened) → Follows K (beginning K) c → Outcome K (walk K n c)
  unfolding walk asked
  walk_outcome zero c enough t f =
      finish_outcome c f (subst (λ b. Answers {A = Unit {0}} (λ t. Rules.accepted) (asked_if b K c) (last_test K c)) (sym (le-leb (length K.derivation) c.rule (omega arith))) (last_answers K c))
  walk_outcome (suc n) c enough t f = by (leb (length K.derivation) c.rule) (finish_outcome c f) (λ h. rule_outcome n c enough t f h (walk_outcome n))
    where
      by : (b : Bool) → (Answers {A = Unit {0}} (λ t. Rules.accepted) (asked_if b K c) (last_test K c) → Outcome K (finish K c))
          → (Answers goes_on (asked_if b K c) (follow K c (rule (next_rule K c).code) (next_array K c) (next_stream K c)) → Outcome K (take_rule K c >>= walk K n))
          → Outcome K (elim b [ true ↦ finish K c | false ↦ take_rule K c >>= walk K n ])
      by true last next = last (last_answers K c)
      by false last next = next (line_answers K c t (next_array K c) (next_stream K c) (rule (next_rule K c).code))

  pub kernel_outcome : Outcome K (check_kernel K)
  unfolding check_kernel beginning loops
  kernel_outcome = walk_outcome (length K.derivation) (beginning K) (omega arith) none_around here

-- ---- the steps in order, counted

pub data Path (K : Kernel) : ℕ → Place → Place → Type 0 where
  stays : {c : Place} → Path K 0 c c
  steps : {n : ℕ} {c d e : Place} → Step K c d → Path K n d e → Path K (suc n) c e

longer : {K : Kernel} {n : ℕ} {c d e : Place} → Path K n c d → Step K d e → Path K (suc n) c e
longer stays s = steps s stays
longer (steps r p) s = steps r (longer p s)

pub path : {K : Kernel} {c d : Place} → Follows K c d → (n : ℕ) × Path K n c d
path here = (0, stays)
path (then f s) = let (n, p) = path f in (suc n, longer p s)

-- two ways from one place have one end, where neither goes on
one_end : {K : Kernel} {m n : ℕ} {c d e : Place} → Path K m c d → Path K n c e → ((x : Place) → Step K d x → ⊥) → ((x : Place) → Step K e x → ⊥) → d ≡ e
one_end stays stays f g = refl
one_end stays (steps s q) f g = absurd (f _ s)
one_end (steps s p) stays f g = absurd (g _ s)
one_end {K} (steps {n = m} {d = d} s p) (steps {n = k} {e = w} r q) f g = one_end {m = m} {n = k} p (subst (λ x. Path K k x w) (sym (same_step s r)) q) f g

-- what is finished does not go on, so nothing is refused where a derivation follows the rules
derived_accepted : (K : Kernel) → Derived K → {m : Result Refusal (Unit {0})} → Outcome K m → checked m ≡ accepted
unfolding checked
derived_accepted K d (derived e) = refl
derived_accepted K d (bad b) =
    let (m, p) = path d.follows in
    let (n, q) = path b.follows in
    let same_end : d.last ≡ b.place = one_end p q (λ x s. finished_stays d.finished s) b.no_step in
    absurd (b.not_finished (subst (Finished K) same_end d.finished))

-- ---- demand 2

pub first_refusal : FirstRefusal
unfolding check checked_file checked
first_refusal file K e r h = by (check_kernel K) (kernel_outcome K (on_at (file_reads file) e)) (ap checked_file (sym e) ∙ h)
  where
    by : (m : Result Refusal (Unit {0})) → Outcome K m → checked m ≡ refused r → FirstBad K r
    by m (derived d) h = absurd (let z : ◌≡◌ {A = ℕ} 0 1 = cc in omega arith)
    by m (bad {r = other} b) h = subst (FirstBad K) (let same_refusal : other ≡ r = cc in same_refusal) b

pub exactness : Exactness
unfolding check checked_file checked
exactness file K e = (
  λ h. accepts (check_kernel K) (kernel_outcome K reads) (ap checked_file (sym e) ∙ h),
  λ d. ap checked_file e ∙ derived_accepted K d (kernel_outcome K reads),
)
  where
    reads : Reads K
    reads = on_at (file_reads file) e

    accepts : (m : Result Refusal (Unit {0})) → Outcome K m → checked m ≡ accepted → Derived K
    accepts m (derived d) h = d
    accepts m (bad b) h = absurd (let z : ◌≡◌ {A = ℕ} 0 1 = cc in omega arith)
