-- What the tests say by which a rule fits the next statements.
use Prim.Native.Nat.{ℕ, ◌≤◌}
use mathlib.Core.Path.{◌≡◌}
use mathlib.Core.Bool.{true}
use lib.Dec.{eqb}
use borrow.Author.Tests.{eqb-true, leb-true}
use Rattle.numbers.proofs.Tests.{and_left, and_right}
use Rattle.kernel.specs.File.{Rec, Kernel}
use Rattle.kernel.specs.Check.{codes, is_buffer}

pub codes_say : (c d : ℕ) (a s : Rec) → codes c d a s ≡ true → (a.code ≡ c) × (s.code ≡ d)
unfolding codes
codes_say c d a s h = (eqb-true a.code c (and_left (eqb a.code c) (eqb s.code d) h), eqb-true s.code d (and_right (eqb a.code c) (eqb s.code d) h))

pub buffer_says : (K : Kernel) (p : ℕ) → is_buffer K p ≡ true → K.registers ≤ p
unfolding is_buffer
buffer_says K p h = leb-true K.registers p h
