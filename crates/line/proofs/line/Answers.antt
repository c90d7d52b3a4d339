-- `line::line` meets its contract: the numbers of the answer, the last first, and the word before them.
use Rattle.std.proofs.Common.{◌≡◌, rules}
use Rattle.kernel.specs.Answers as Answers
use Rattle.kernel.specs.Named.{section_of, unread}
use Rattle.check_file.specs.View.{answer}
use Rattle.line.proofs.line.Goals as goal

pub returns-in-Ok : goal.returns-in-Ok
unfolding Answers.line answer
returns-in-Ok c =
    rw c.in-Ok.is (c.word.ensures _ c.ended-end.ensures.0)

pub returns-in-Err-Unread : goal.returns-in-Err-Unread
unfolding Answers.line Answers.spaced Answers.fault_numbers answer unread section_of
returns-in-Err-Unread c =
    let section : c.map_or-section.result ≡ section_of c.in-Err-Unread.u.section = search (rules, c.map_or-section.ensures) in
    let last = c.number-last.ensures.0 _ c.ended-end.ensures.0 in
    let middle = c.number-middle.ensures.0 _ last in
    let first = c.number-first.ensures.0 _ middle in
    rw (c.in-Err-Unread.is, (rw c.in-Err-Unread.is at c.in-Err-Unread.field-0-is), ← c.from-number.ensures, ← section) (c.word-in-Err-Unread.ensures _ first)

pub returns-in-Err-Refused : goal.returns-in-Err-Refused
unfolding Answers.line Answers.spaced Answers.refusal_numbers answer
returns-in-Err-Refused c =
    let last = c.number-last-in-Err-Refused.ensures.0 _ c.ended-end.ensures.0 in
    let third = c.number-third.ensures.0 _ last in
    let second = c.number-second.ensures.0 _ third in
    let first = c.number-first-in-Err-Refused.ensures.0 _ second in
    rw (c.in-Err-Refused.is, (rw c.in-Err-Refused.is at c.in-Err-Refused.field-0-is), ← c.from.ensures) (c.word-in-Err-Refused.ensures _ first)
