-- `check_rules::item_asked` meets its contract: one test after the other.
use mathlib.Core.Path.{◌≡◌, sym, ap, ◌∙◌}
use Rattle.std.proofs.lemmas.Result.{err_from_is_err_and}
use Prim.Native.Nat.{ℕ}
use mathlib.Core.Bool.{Bool}
use Rattle.numbers.specs.Result.{Result, stop, ◌>>=◌, need}
use Rattle.forms.specs.Form as F
use Rattle.forms.specs.Code.{form, loops}
use Rattle.kernel.specs.File as File
use Rattle.kernel.specs.declared.refusals.Misfit.{Misfit}
use Rattle.kernel.specs.Named.{misfit}
use Rattle.parts.specs.Records.{rec}
use Rattle.parts.specs.Arrays.{arrays_of, array_at}
use Rattle.parts.proofs.Arrays.{array_as}
use Rattle.check_rules.specs.View.{next_at, room_left, next_item, answered}
use Rattle.check_rules.proofs.Needs.{answer_stops, answer_goes}
use Rattle.check_rules.proofs.item_asked.Goals.{Start}
use Rattle.check_rules.proofs.item_asked.Goals as goal

-- what is asked, of an array's record
module _ (s : Start) where
  abbrev room : File.Rec → Bool
  room r = F.below (loops s.args.around) (File.count_of r) (form s.args.position)

  abbrev next : File.Rec → Bool
  next r = F.same (loops s.args.around) (File.form (rec s.args.a)) (next_at r (form s.args.position))

  abbrev both : File.Rec → Result ℕ (Unit {0})
  both r = need 11 (room r) >>= λ _. need 12 (next r)

  of_kernel : (K : File.Kernel) → K.arrays ≡ arrays_of s.args.arrays.file.now s.args.arrays.count → both (array_at s.args.arrays.file.now s.args.a.q) ≡ next_item K (loops s.args.around) (rec s.args.a) (form s.args.position)
  unfolding room_left next_item
  of_kernel K k = ap both (array_as s.args.arrays.file.now s.args.arrays.count s.args.a.q s.requires.0 K k)

pub returns-in_err-need : goal.returns-in_err-need
unfolding answered misfit
returns-in_err-need c K k =
    let p = err_from_is_err_and c.from_residual.result c.from_residual.ensures.1 in
    ap answered p.1 ∙ ap (λ (m : Misfit). stop (misfit m)) p.2
    ∙ sym (answer_stops (c.need.ensures ∙ ap (need 11) c.below_count.ensures) _ c.in_err-need.was)
    ∙ of_kernel (goal.at.returns-in_err-need c).Start K k

pub returns : goal.returns
unfolding misfit
returns c K k =
    c.need-2.ensures ∙ ap (need 12) c.at_next.ensures
    ∙ sym (answer_goes (c.need.ensures ∙ ap (need 11) c.below_count.ensures) _ c.in_ok-need.was)
    ∙ of_kernel (goal.at.returns c).Start K k
