-- `Line::stepped` meets its contract: a step of the ledger for each rule that makes one, and the same ledger for the others.
use Prim.Native.Nat.{◌+◌, ◌≤◌, ◌<◌}
use native.Mathlib.Omega.{arith}
use borrow.Author.Rules.{rules}
use Rattle.kernel.specs.Ledger as L
use Rattle.kernel.specs.Derivation.{buffer}
use Rattle.kernel.specs.Named.{rule}
use Rattle.parts.proofs.Parts.{few, registers_are}
use Rattle.check_ledger.proofs.Bounds.{bounded_wider}
use Rattle.check_rules.specs.View.{stepped}
use Rattle.check_rules.proofs.Line.stepped.Goals.{Start}
use Rattle.check_rules.proofs.Line.stepped.Goals as goal

pub passed-requires : goal.passed-requires
unfolding rule
passed-requires c =
    let k = c.args.self.kernel in
    let f = few k.file.now k.counts k.reads in
    let there : c.args.self.pair.array.q < k.counts.a = search rules in
    (omega (arith, f.arrays), c.requires)

pub filled-requires : goal.filled-requires
unfolding rule
filled-requires c = search rules

pub overflow_sub-s : goal.overflow_sub-s
unfolding rule
overflow_sub-s c = search rules

pub overflow_sub-s-in-Move : goal.overflow_sub-s-in-Move
unfolding rule
overflow_sub-s-in-Move c = search rules

pub moved-requires : goal.moved-requires
unfolding rule
moved-requires c =
    let k = c.args.self.kernel in
    let f = few k.file.now k.counts k.reads in
    let to : c.args.self.pair.stream.p < k.counts.r + k.counts.b = search rules in
    let from : c.args.self.pair.stream.q < k.counts.r + k.counts.b = search rules in
    (omega (arith, f.buffers), omega (arith, f.buffers))

pub returns-in-Read : goal.returns-in-Read
unfolding rule stepped L.read_step L.write_step
returns-in-Read c =
    let k = c.args.self.kernel in
    let there : c.args.self.pair.array.q < k.counts.a = search rules in
    let passed = c.passed.ensures.0 k.counts.a k.counts.b there in
    record { as_said = search rules; bounded = c.passed.ensures.1 }

pub returns-in-Fill : goal.returns-in-Fill
unfolding rule stepped
returns-in-Fill c = record { as_said = search rules; bounded = c.filled.ensures.bounded }

pub returns-in-Move : goal.returns-in-Move
unfolding rule stepped buffer
returns-in-Move c =
    let k = c.args.self.kernel in
    let s = c.args.self.pair.stream in
    let from : (k.counts.r ≤ s.q) × (s.q < k.counts.r + k.counts.b) = search rules in
    let moved = c.moved.ensures.0 k.counts.a k.counts.b (omega (arith, from.0, from.1)) in
    let registers = registers_are k.file.now k.counts in
    record {
      as_said = search rules;
      bounded = λ n h. bounded_wider (c.moved.ensures.1 n h) (omega arith);
    }

pub returns-in_default : goal.returns-in_default
unfolding rule stepped
returns-in_default c = record { as_said = search rules; bounded = λ n h. bounded_wider h (omega arith) }
