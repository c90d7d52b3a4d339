-- `Reader::section` meets its contract.
use mathlib.Core.Path.{sym, ap}
use Prim.Native.Nat.{◌+◌, ◌*◌}
use native.Mathlib.Omega.{arith}
use Rattle.std.proofs.lemmas.Result.{err_from_is_err_and}
use Rattle.numbers.specs.Words.{words}
use Rattle.numbers.proofs.Areas.{words_length}
use Rattle.kernel.specs.Named.{section, section_of, misread, unread}
use Rattle.read_counts.specs.View.{listed}
use Rattle.read_counts.proofs.AsMet.{section_stop, section_short, listed_there}
use Rattle.read_counts.proofs.Reader.section.Goals as goal

pub returns-in_err-f : goal.returns-in_err-f
unfolding listed
returns-in_err-f c =
    let a = c.args in
    let p = err_from_is_err_and c.from_residual.result c.from_residual.ensures.1 in
    rw (p.1, p.2) (sym (section_stop (words a.self.file.now) a.self.place (section a.of) a.low a.high c.count.ensures.0 c.in_err-f.was), tt)

pub returns-then-self-next : goal.returns-then-self-next
unfolding listed unread misread section_of
returns-then-self-next c =
    let a = c.args in
    (sym (section_short (words a.self.file.now) a.self.place (section a.of) a.low a.high c.count.ensures.0 c.in_ok-f.f c.in_ok-f.was c.in_ok-f.ensures.1.1 (omega (arith, words_length a.self.file.now, c.if-self-next.true))), tt)

pub returns : goal.returns
returns c =
    let a = c.args in
    let f = c.in_ok-f.f in
    (listed_there (words a.self.file.now) a.self.place (section a.of) a.low a.high c.count.ensures.0 f c.in_ok-f.was (omega (arith, words_length a.self.file.now, c.if-self-next.false)), (c.in_ok-f.ensures.1.0, ap (λ n. n + 8 * f.count) c.in_ok-f.ensures.1.1, c.if-self-next.false))
