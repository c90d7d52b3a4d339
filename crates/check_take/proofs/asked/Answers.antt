-- `check_take::asked` meets its contract: the entries of the ledger that the rule asks about are those that it is asked of.
use Prim.Native.Nat.{◌<◌}
use mathlib.Core.Path.{sym, subst, ◌∙◌}
use native.Mathlib.Omega.{arith}
use lib.ListN.{get_or}
use Rattle.std.proofs.Common.{None}
use Rattle.forms.specs.Code.{form, loops}
use Rattle.kernel.specs.Ledger.{position, holding}
use Rattle.kernel.specs.Named.{rule}
use Rattle.parts.specs.Records.{rec}
use Rattle.parts.proofs.Parts.{K, few, registers_are}
use Rattle.check_ledger.specs.View.{held, ledger, no_form}
use Rattle.check_rules.specs.View.{stream_of, buffer_of, asked}
use Rattle.check_rules.proofs.Effects.{entries, stream_there, buffer_there}
use Rattle.check_take.proofs.asked.Goals.{After-stream_of-q, After-buffer_of-b}
use Rattle.check_take.proofs.asked.Goals as goal

-- the entries are there
module _ (c : After-stream_of-q) where
  in_positions : c.stream_of-q.result < 8
  in_positions =
      let l = c.args.line in
      let k = l.kernel in
      subst (λ q. q < 8) (sym c.stream_of-q.ensures) (stream_there k.counts (rec l.pair.array) (rec l.pair.stream) (rule l.rule) l.named (few k.file.now k.counts k.reads).arrays)

module _ (c : After-buffer_of-b) where
  in_buffers : c.buffer_of-b.result < 16
  in_buffers =
      let l = c.args.line in
      let k = l.kernel in
      subst (λ b. b < 16) (sym c.buffer_of-b.ensures) (buffer_there k.counts (rec l.pair.array) (rec l.pair.stream) (rule l.rule) l.named (few k.file.now k.counts k.reads).buffers)

pub offset_bounds-l-q : goal.offset_bounds-l-q
offset_bounds-l-q c = let h = in_positions (goal.at.offset_bounds-l-q c).After-stream_of-q in omega arith

pub bounds-l-q : goal.bounds-l-q
bounds-l-q c = in_positions (goal.at.bounds-l-q c).After-stream_of-q

pub offset_bounds-l-b : goal.offset_bounds-l-b
offset_bounds-l-b c = let h = in_buffers (goal.at.offset_bounds-l-b c).After-buffer_of-b in omega arith

pub bounds-l-b : goal.bounds-l-b
bounds-l-b c = in_buffers (goal.at.bounds-l-b c).After-buffer_of-b

pub returns : goal.returns
returns c os at o =
    let k = c.args.line.kernel in
    let l = c.args.l.now in
    let r = rule c.args.line.rule in
    let p = rec c.args.line.pair.array in
    let q = rec c.args.line.pair.stream in
    let kernel = K k.file.now k.counts in
    c.asked.ensures
    ∙ (λ i. asked kernel (loops c.args.around) r p q (form (get_or l.positions (c.stream_of-q.ensures i) no_form)) (held (get_or l.buffers (c.buffer_of-b.ensures i) None)))
    ∙ entries kernel (loops c.args.around) k.counts p q l (few k.file.now k.counts k.reads).arrays c.requires.1.1.whole r c.args.line.named
    ∙ (λ i. asked kernel (sym o i) r p q (position (stream_of r p q) (ledger k.counts.a k.counts.b l)) (holding (buffer_of (sym (registers_are k.file.now k.counts) i) r q) (ledger k.counts.a k.counts.b l)))
