-- The positions of a ledger against the counts of its arrays.
use Prim.Native.Nat.{ℕ, ◌≤◌, ◌<◌}
use mathlib.Core.Path.{◌≡◌, sym, ap, ap₂, ◌∙◌}
use mathlib.Core.Bool.{Bool}
use mathlib.Core.List.{List, [], map}
use native.Mathlib.Omega.{arith}
use lib.IntN.{pos}
use lib.ListN.{length, get_or, take, drop, length-map}
use Rattle.std.proofs.lemmas.List.{length-take}
use lib.Seq.{length-take-le}
use Rattle.numbers.specs.Lists.{alike}
use Rattle.numbers.specs.Words.{words}
use Rattle.forms.specs.Form as F
use Rattle.forms.specs.declared.Form.{Form}
use Rattle.forms.specs.Code.{form}
use Rattle.kernel.specs.File.{Rec, nothing, Kernel, count_of}
use Rattle.kernel.specs.Check as Check
use Rattle.kernel.proofs.Readable.{length_records}
use Rattle.parts.specs.Arrays.{arrays_of, array_at}
use Rattle.parts.proofs.Arrays.{array_is}
use Rattle.check_ledger.proofs.Rows.{view_at}
use Rattle.kernel.specs.Ledger as L
use Rattle.check_ledger.specs.View.{no_form}

abbrev pub counted : Rec → F.Form → Bool
counted a f = F.same [] (F.constant (pos (count_of a))) f

pub all_counted_is : (K : Kernel) (M : L.Ledger) (arrays : List Rec) (ps : List F.Form) → K.arrays ≡ arrays → M.positions ≡ ps → alike counted arrays ps ≡ Check.all_counted K M
unfolding Check.all_counted
all_counted_is K M arrays ps k e = ap₂ (alike counted) (sym k) (sym e)

module _ (file : List ℕ) (n : ℕ) (positions : List Form) where
  abbrev pub seen : List F.Form
  seen = map form (take n positions)

  pub arrays_long : length (arrays_of file n) ≡ n
  arrays_long = length_records n (drop 3 (words file))

  pub seen_few : length seen ≤ n
  seen_few = omega (arith, length-map (take n positions) form, length-take n positions)

  pub seen_long : n ≤ length positions → length seen ≡ n
  seen_long h = length-map (take n positions) form ∙ length-take-le n positions h

  -- the test at array j, as the code makes it, with no loop around
  module _ (j : ℕ) (h : j < n) where
    pub test_is : (v : ℕ) (f : Form) (around : List F.Loop) → v ≡ count_of (array_at file j) → form f ≡ F.constant (pos v) → around ≡ []
        → F.same around (form f) (form (get_or positions j no_form)) ≡ counted (get_or (arrays_of file n) j nothing) (get_or seen j (form no_form))
    test_is v f around e k o = λ i. F.same (o i) ((k ∙ ap F.constant (ap pos (e ∙ ap count_of (sym (array_is file n j h))))) i) (sym (view_at form n positions j no_form h) i)
