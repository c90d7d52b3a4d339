-- `Scope::holds` meets its contract: an arm for each kind.
use mathlib.Core.Path.{◌≡◌, refl, sym}
use denote.Enum.Bare.{same_true}
use Rattle.std.proofs.Common.{rules}
use Rattle.kernel.specs.Named.{side}
use Rattle.kernel.specs.Reading as Reading
use Rattle.read_records.specs.contracts.Kind.{the_type}
use Rattle.read_records.specs.declared.Kind.TheVariants.{Unused}
use Rattle.read_records.specs.View.{kind_of}
use Rattle.read_records.proofs.Scope.holds.Goals as goal

pub returns-then-eq : goal.returns-then-eq
unfolding Reading.holds kind_of
returns-then-eq c =
    let k : c.args.kind ≡ Unused = same_true the_type (search rules) _ _ (sym c.if-eq.ensures) in
    rw (k, c.if-w-eq0.true) refl

pub returns-in-Either : goal.returns-in-Either
unfolding Reading.holds kind_of
returns-in-Either c = rw c.in-Either.is refl

pub returns-in-ArrayOnly : goal.returns-in-ArrayOnly
unfolding Reading.holds kind_of
returns-in-ArrayOnly c = rw c.in-ArrayOnly.is refl

pub returns-in-StreamOnly : goal.returns-in-StreamOnly
unfolding Reading.holds kind_of
returns-in-StreamOnly c = rw c.in-StreamOnly.is refl

pub returns-in-Unused : goal.returns-in-Unused
unfolding Reading.holds kind_of
returns-in-Unused c = rw c.in-Unused.is refl

pub returns-in-Register : goal.returns-in-Register
unfolding Reading.holds kind_of
returns-in-Register c = rw c.in-Register.is refl

pub returns-in-AnInput : goal.returns-in-AnInput
unfolding Reading.holds kind_of side
returns-in-AnInput c = rw c.in-AnInput.is c.on.ensures

pub returns-in-AnOutput : goal.returns-in-AnOutput
unfolding Reading.holds kind_of side
returns-in-AnOutput c = rw c.in-AnOutput.is c.on-in-AnOutput.ensures

pub returns-in-Term : goal.returns-in-Term
unfolding Reading.holds kind_of
returns-in-Term c = rw c.in-Term.is c.near.ensures

pub returns-in-Bound : goal.returns-in-Bound
unfolding Reading.holds kind_of
returns-in-Bound c = rw c.in-Bound.is c.near-in-Bound.ensures

pub returns-in-AnOperator : goal.returns-in-AnOperator
unfolding Reading.holds kind_of
returns-in-AnOperator c = rw c.in-AnOperator.is c.between.ensures
