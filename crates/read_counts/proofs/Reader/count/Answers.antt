-- `Reader::count` meets its contract.
use mathlib.Core.Path.{sym, refl, ◌∙◌}
use borrow.Author.Tests.{lt-leb, le-leb}
use Rattle.numbers.specs.Words.{between}
use Rattle.numbers.specs.Result.{need, ◌>>=◌}
use Rattle.kernel.specs.Named.{section, section_of, misread, unread}
use Rattle.read_counts.specs.View.{counted}
use Rattle.read_counts.proofs.Places.{count_number, count_end}
use Rattle.read_counts.proofs.Reader.count.Goals.{then-n-low-via-then-n-low, then-n-low-via-else-n-low+then-high-n}
use Rattle.read_counts.proofs.Reader.count.Goals as goal

pub returns-in_default : goal.returns-in_default
unfolding counted unread misread section_of
returns-in_default c =
    let a = c.args in
    (sym (count_end a.self.file.now a.self.place (section a.of) a.low a.high c.in_default.ensures), tt)

pub returns-then-n-low : goal.returns-then-n-low
unfolding counted between need ◌>>=◌ unread misread section_of
returns-then-n-low c =
    let a = c.args in (
      sym (count_number a.self.file.now a.self.place (section a.of) a.low a.high _ c.in-Some.ensures ∙ elim c.then-n-low.branch [
        | then-n-low-via-then-n-low w ↦ simp (lt-leb _ _ w.if-n-low.true) refl
        | then-n-low-via-else-n-low+then-high-n w ↦ simp (le-leb _ _ w.if-n-low.false, lt-leb _ _ w.if-high-n.true) refl
      ]),
      tt,
    )

pub returns : goal.returns
unfolding counted between need ◌>>=◌
returns c =
    let a = c.args in
    (sym (count_number a.self.file.now a.self.place (section a.of) a.low a.high _ c.in-Some.ensures ∙ simp (le-leb _ _ c.if-n-low.false, le-leb _ _ c.if-high-n.false) refl), (c.if-high-n.false, refl))
