-- What a statement makes of the open blocks.
use Prim.Native.Nat.{ℕ, zero, suc}
use mathlib.Core.Path.{◌≡◌, refl, sym, ap, subst, ◌∙◌}
use mathlib.Core.Bool.{true, false}
use lib.ListN.{get_or}
use Rattle.numbers.specs.Result.{ok, stop, need, ◌>>=◌}
use Rattle.forms.specs.Form.{Form, Loop, around}
use Rattle.kernel.specs.File.{Rec, Statement, does, for, if, else, end, none, sayings, statement, loop_of}
use Rattle.kernel.specs.Reading.{names}
use Rattle.read_blocks.specs.declared.open.OpenBlocks.{OpenBlocks}
use Rattle.read_blocks.specs.View.{opens}

-- ---- a form's terms

module _ (n : OpenBlocks) (f : Form) where
  pub names_fine : around n.loops f ≡ true → names f (opens n) ≡ ok (opens n)
  unfolding opens names need ◌>>=◌
  names_fine h = ap (λ t. need 5 t >>= λ _. ok (opens n)) (ap (λ l. around l f) (sym n.loops_are) ∙ h)

  pub names_refused : around n.loops f ≡ false → names f (opens n) ≡ stop 5
  unfolding opens names need ◌>>=◌
  names_refused h = ap (λ t. need 5 t >>= λ _. ok (opens n)) (ap (λ l. around l f) (sym n.loops_are) ∙ h)

-- ---- only a record of code 8 is a for

-- the loop of a for
its_loop : Statement → Loop → Loop
its_loop (for l) other = l
its_loop (does o) other = other
its_loop (if p) other = other
its_loop else other = other
its_loop end other = other
its_loop none other = other

abbrev IsFor : Statement → Type 0
IsFor (for l) = Unit
IsFor (does o) = ⊥
IsFor (if p) = ⊥
IsFor else = ⊥
IsFor end = ⊥
IsFor none = ⊥

for_code : (n : ℕ) (r : Rec) → IsFor (get_or {A = Rec → Statement} sayings n (λ r. none) r) → n ≡ 8
unfolding sayings
for_code zero r h = absurd h
for_code (suc zero) r h = absurd h
for_code (suc (suc zero)) r h = absurd h
for_code (suc (suc (suc zero))) r h = absurd h
for_code (suc (suc (suc (suc zero)))) r h = absurd h
for_code (suc (suc (suc (suc (suc zero))))) r h = absurd h
for_code (suc (suc (suc (suc (suc (suc zero)))))) r h = absurd h
for_code (suc (suc (suc (suc (suc (suc (suc zero))))))) r h = absurd h
for_code (suc (suc (suc (suc (suc (suc (suc (suc zero)))))))) r h = refl
for_code (suc (suc (suc (suc (suc (suc (suc (suc (suc zero))))))))) r h = absurd h
for_code (suc (suc (suc (suc (suc (suc (suc (suc (suc (suc zero)))))))))) r h = absurd h
for_code (suc (suc (suc (suc (suc (suc (suc (suc (suc (suc (suc zero))))))))))) r h = absurd h
for_code (suc (suc (suc (suc (suc (suc (suc (suc (suc (suc (suc (suc n)))))))))))) r h = absurd h

module _ (r : Rec) {l : Loop} (e : for l ≡ statement r) where
  pub code_of_for : r.code ≡ 8
  unfolding statement
  code_of_for = for_code r.code r (subst IsFor e tt)

  pub loop_of_for : l ≡ loop_of r
  unfolding statement sayings its_loop
  loop_of_for = ap (λ s. its_loop s l) (e ∙ ap (λ k. get_or {A = Rec → Statement} sayings k (λ r. none) r) code_of_for)
