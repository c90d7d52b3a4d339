-- `read_blocks::after_op` meets its contract.
use mathlib.Core.Path.{refl}
use mathlib.Core.Logic.{inl, inr}
use Rattle.kernel.specs.Reading as Reading
use Rattle.parts.specs.Statements.{op}
use Rattle.read_blocks.specs.View.{nested}
use Rattle.read_blocks.proofs.after_op.Goals as goal

pub returns-in-Copy : goal.returns-in-Copy
unfolding op nested Reading.after_op
returns-in-Copy c = elim c.in-Copy.is [
  | inl e ↦ rw e.2 refl
  | inr f ↦ elim f [
    | inl e ↦ rw e.4 refl
    | inr f ↦ elim f [
      | inl e ↦ rw e.2 refl
      | inr e ↦ rw e.2 refl
    ]
  ]
]

pub returns-in-Set : goal.returns-in-Set
unfolding op Reading.after_op
returns-in-Set c = elim c.in-Set.is [
  | inl e ↦ rw e.1 c.named.ensures
  | inr f ↦ elim f [
    | inl e ↦ rw e.2 c.named.ensures
    | inr e ↦ rw e.2 c.named.ensures
  ]
]
