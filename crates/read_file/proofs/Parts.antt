-- The whole file, part by part: from what each part's test came to, to what reading comes to.
use Prim.Native.Nat.{ℕ, ◌%◌}
use mathlib.Core.Path.{◌≡◌, sym, ap, ◌∙◌}
use mathlib.Core.List.{List, []}
use lib.ListN.{length}
use borrow.Author.Tests.{eq-eqb, ne_eqb}
use Rattle.std.specs.Prelude as Std
use Rattle.std.specs.Prelude.{Ok, Err}
use Rattle.numbers.specs.Result.{Result, ok, stop, need, ◌>>=◌}
use Rattle.numbers.specs.Words.{words}
use Rattle.kernel.specs.File.{Kernel}
use Rattle.kernel.specs.Reading.{Fault, fault, sections, array_scope, stream_scope, arrays_fit, statements_fit, rules_fit, read_file}
use Rattle.kernel.specs.Named.{unread}
use Rattle.kernel.specs.declared.refusals.Unread.{Unread}
use Rattle.read_file.specs.View.{checked}

pub from_rules : Kernel → Result Fault Kernel
from_rules K = do
  _ ← rules_fit K 0 K.derivation
  ok K

pub from_stream_program : Kernel → Result Fault Kernel
from_stream_program K = do
  _ ← statements_fit (stream_scope K) 5 0 [] K.stream_program
  from_rules K

pub from_array_program : Kernel → Result Fault Kernel
from_array_program K = do
  _ ← statements_fit (array_scope K) 4 0 [] K.array_program
  from_stream_program K

pub from_arrays : Kernel → Result Fault Kernel
from_arrays K = do
  _ ← arrays_fit 0 0 0 K.arrays
  from_array_program K

-- ---- before the records

pub read_odd : (file : List ℕ) → (length file % 4 ≡ 0 → ⊥) → read_file file ≡ stop (fault 1 0 0)
unfolding read_file need ◌>>=◌ from_arrays from_array_program from_stream_program from_rules
read_odd file h = ap (λ t. need (fault 1 0 0) t >>= λ _. sections (words file) >>= from_arrays) (ne_eqb (length file % 4) 0 h)

read_even : (file : List ℕ) → length file % 4 ≡ 0 → read_file file ≡ (sections (words file) >>= from_arrays)
unfolding read_file need ◌>>=◌ from_arrays from_array_program from_stream_program from_rules
read_even file h = ap (λ t. need (fault 1 0 0) t >>= λ _. sections (words file) >>= from_arrays) (eq-eqb (length file % 4) 0 h)

pub read_stop : (file : List ℕ) (f : Fault) → length file % 4 ≡ 0 → sections (words file) ≡ stop f → read_file file ≡ stop f
unfolding ◌>>=◌
read_stop file f h e = read_even file h ∙ ap (λ m. m >>= from_arrays) e

pub read_sections : (file : List ℕ) (K : Kernel) → length file % 4 ≡ 0 → sections (words file) ≡ ok K → read_file file ≡ from_arrays K
unfolding ◌>>=◌
read_sections file K h e = read_even file h ∙ ap (λ m. m >>= from_arrays) e

-- ---- one part

module _ {x : Std.Result (Unit {0}) Unread} (m : Result Fault (Unit {0})) (e : checked x ≡ m) (next : Result Fault Kernel) where
  goes : {t : Unit {0}} → x ≡ Ok t → (m >>= λ _. next) ≡ next
  unfolding checked ◌>>=◌
  goes w = ap (λ r. r >>= λ _. next) (sym e ∙ ap checked w)

  stops : {u : Unread} → x ≡ Err u → (m >>= λ _. next) ≡ stop (unread u)
  unfolding checked ◌>>=◌
  stops w = ap (λ r. r >>= λ _. next) (sym e ∙ ap checked w)

module _ {all : Result Fault Kernel} {x : Std.Result (Unit {0}) Unread} (K : Kernel) where
  module _ (so : all ≡ from_arrays K) (e : checked x ≡ arrays_fit 0 0 0 K.arrays) where
    pub go_arrays : {t : Unit {0}} → x ≡ Ok t → all ≡ from_array_program K
    unfolding from_arrays
    go_arrays w = so ∙ goes (arrays_fit 0 0 0 K.arrays) e (from_array_program K) w

    pub stop_arrays : {u : Unread} → x ≡ Err u → all ≡ stop (unread u)
    unfolding from_arrays
    stop_arrays w = so ∙ stops (arrays_fit 0 0 0 K.arrays) e (from_array_program K) w

  module _ (so : all ≡ from_array_program K) (e : checked x ≡ statements_fit (array_scope K) 4 0 [] K.array_program) where
    pub go_array_program : {t : Unit {0}} → x ≡ Ok t → all ≡ from_stream_program K
    unfolding from_array_program
    go_array_program w = so ∙ goes (statements_fit (array_scope K) 4 0 [] K.array_program) e (from_stream_program K) w

    pub stop_array_program : {u : Unread} → x ≡ Err u → all ≡ stop (unread u)
    unfolding from_array_program
    stop_array_program w = so ∙ stops (statements_fit (array_scope K) 4 0 [] K.array_program) e (from_stream_program K) w

  module _ (so : all ≡ from_stream_program K) (e : checked x ≡ statements_fit (stream_scope K) 5 0 [] K.stream_program) where
    pub go_stream_program : {t : Unit {0}} → x ≡ Ok t → all ≡ from_rules K
    unfolding from_stream_program
    go_stream_program w = so ∙ goes (statements_fit (stream_scope K) 5 0 [] K.stream_program) e (from_rules K) w

    pub stop_stream_program : {u : Unread} → x ≡ Err u → all ≡ stop (unread u)
    unfolding from_stream_program
    stop_stream_program w = so ∙ stops (statements_fit (stream_scope K) 5 0 [] K.stream_program) e (from_rules K) w

  module _ (so : all ≡ from_rules K) (e : checked x ≡ rules_fit K 0 K.derivation) where
    pub go_rules : {t : Unit {0}} → x ≡ Ok t → all ≡ ok K
    unfolding from_rules
    go_rules w = so ∙ goes (rules_fit K 0 K.derivation) e (ok K) w

    pub stop_rules : {u : Unread} → x ≡ Err u → all ≡ stop (unread u)
    unfolding from_rules
    stop_rules w = so ∙ stops (rules_fit K 0 K.derivation) e (ok K) w
