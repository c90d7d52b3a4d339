-- `RecordTable::statement` meets its contract: past the last record nothing is said; else an arm for each code, of its record's numbers.
use Prim.Native.Nat.{ℕ}
use mathlib.Core.Path.{◌≡◌, refl, sym, ap, ◌∙◌}
use lib.ListN.{get_or, drop}
use Rattle.numbers.specs.Words.{words}
use Rattle.kernel.specs.File as File
use Rattle.kernel.specs.File.{Rec, numbers, nothing}
use Rattle.kernel.specs.Named.{code, coded}
use Rattle.kernel.specs.declared.codes.Code.TheVariants as C
use Rattle.kernel.proofs.Named.{says_nothing}
use Rattle.kernel.proofs.Sayings.{says_set, says_copy, says_work, says_load, says_store, says_read, says_write, says_for, says_if, says_else, says_end}
use Rattle.parts.specs.Parts.{records_in}
use Rattle.parts.specs.Statements.{op, statement, stated}
use Rattle.parts.proofs.Records.{records_past}
use Rattle.parts.proofs.Saying.{means, stated_err}
use Rattle.parts.proofs.RecordTable.statement.Goals.{Start}
use Rattle.parts.proofs.RecordTable.statement.Goals as goal

-- the record that is read
abbrev r : Start → Rec
r c = get_or (records_in c.args.self.file.now c.args.self.part) c.args.i nothing

-- its numbers, by their places
module _ (r : Rec) {n : ℕ} where
  p : n ≡ get_or (numbers r) 1 0 → n ≡ r.p
  unfolding numbers
  p e = e

  q : n ≡ get_or (numbers r) 2 0 → n ≡ r.q
  unfolding numbers
  q e = e

  k : n ≡ get_or (numbers r) 3 0 → n ≡ r.k
  unfolding numbers
  k e = e

  x₀ : n ≡ get_or (numbers r) 4 0 → n ≡ get_or r.x 0 0
  unfolding numbers
  x₀ e = e

pub returns-then-i-self : goal.returns-then-i-self
unfolding stated coded
returns-then-i-self c =
    let s = c.args.self in
    let past = records_past (drop s.part.at (words s.file.now)) s.part.count c.args.i c.if-i-self.true in
    sym (ap File.statement past ∙ says_nothing nothing refl)

pub returns-in_err-try_from : goal.returns-in_err-try_from
returns-in_err-try_from c =
    let r = r (goal.at.returns-in_err-try_from c).Start in
    stated_err c.from_residual.result c.from_residual.ensures.0 ∙ sym (says_nothing r (ap coded (sym c.code.ensures) ∙ sym c.try_from.ensures ∙ c.in_err-try_from.was))

pub returns-in-Set : goal.returns-in-Set
unfolding code op statement stated
returns-in-Set c =
    let r = r (goal.at.returns-in-Set c).Start in
    let is = sym c.code.ensures ∙ means c.code.result C.Set c.try_from.ensures c.in_ok-try_from.was c.in-Set.is in
    (λ i. File.does (File.set (p r c.name.ensures i) ((c.form.ensures ∙ ap File.form c.record.ensures) i))) ∙ sym (says_set r is)

pub returns-in-Copy : goal.returns-in-Copy
unfolding code op statement stated
returns-in-Copy c =
    let r = r (goal.at.returns-in-Copy c).Start in
    let is = sym c.code.ensures ∙ means c.code.result C.Copy c.try_from.ensures c.in_ok-try_from.was c.in-Copy.is in
    (λ i. File.does (File.copy (p r c.name-in-Copy.ensures i) (q r c.name-in-Copy-2.ensures i))) ∙ sym (says_copy r is)

pub returns-in-Work : goal.returns-in-Work
unfolding code op statement stated
returns-in-Work c =
    let r = r (goal.at.returns-in-Work c).Start in
    let is = sym c.code.ensures ∙ means c.code.result C.Work c.try_from.ensures c.in_ok-try_from.was c.in-Work.is in
    (λ i. File.does (File.work ((c.from-o.ensures ∙ ap File.operator (x₀ r c.number.ensures)) i) (p r c.name-in-Work.ensures i) (q r c.name-q.ensures i) (k r c.name-in-Work-2.ensures i))) ∙ sym (says_work r is)

pub returns-in-Load : goal.returns-in-Load
unfolding code op statement stated
returns-in-Load c =
    let r = r (goal.at.returns-in-Load c).Start in
    let is = sym c.code.ensures ∙ means c.code.result C.Load c.try_from.ensures c.in_ok-try_from.was c.in-Load.is in
    (λ i. File.does (File.load (p r c.name-in-Load.ensures i) (q r c.name-in-Load-2.ensures i) ((c.form-f.ensures ∙ ap File.form c.record-in-Load.ensures) i))) ∙ sym (says_load r is)

pub returns-in-Store : goal.returns-in-Store
unfolding code op statement stated
returns-in-Store c =
    let r = r (goal.at.returns-in-Store c).Start in
    let is = sym c.code.ensures ∙ means c.code.result C.Store c.try_from.ensures c.in_ok-try_from.was c.in-Store.is in
    (λ i. File.does (File.store (p r c.name-in-Store.ensures i) (q r c.name-in-Store-2.ensures i) ((c.form-f-in-Store.ensures ∙ ap File.form c.record-in-Store.ensures) i))) ∙ sym (says_store r is)

pub returns-in-Read : goal.returns-in-Read
unfolding code op statement stated
returns-in-Read c =
    let r = r (goal.at.returns-in-Read c).Start in
    let is = sym c.code.ensures ∙ means c.code.result C.Read c.try_from.ensures c.in_ok-try_from.was c.in-Read.is in
    (λ i. File.does (File.read (p r c.name-in-Read.ensures i) (q r c.name-in-Read-2.ensures i))) ∙ sym (says_read r is)

pub returns-in-Write : goal.returns-in-Write
unfolding code op statement stated
returns-in-Write c =
    let r = r (goal.at.returns-in-Write c).Start in
    let is = sym c.code.ensures ∙ means c.code.result C.Write c.try_from.ensures c.in_ok-try_from.was c.in-Write.is in
    (λ i. File.does (File.write (p r c.name-in-Write.ensures i) (q r c.name-in-Write-2.ensures i))) ∙ sym (says_write r is)

pub returns-in-For : goal.returns-in-For
unfolding code op statement stated
returns-in-For c =
    let r = r (goal.at.returns-in-For c).Start in
    let is = sym c.code.ensures ∙ means c.code.result C.For c.try_from.ensures c.in_ok-try_from.was c.in-For.is in
    ap File.for (c.for_loop.ensures ∙ ap File.loop_of c.record-in-For.ensures) ∙ sym (says_for r is)

pub returns-in-If : goal.returns-in-If
unfolding code op statement stated
returns-in-If c =
    let r = r (goal.at.returns-in-If c).Start in
    let is = sym c.code.ensures ∙ means c.code.result C.If c.try_from.ensures c.in_ok-try_from.was c.in-If.is in
    ap File.if (p r c.name-in-If.ensures) ∙ sym (says_if r is)

pub returns-in-Else : goal.returns-in-Else
unfolding code op statement stated
returns-in-Else c =
    let r = r (goal.at.returns-in-Else c).Start in
    let is = sym c.code.ensures ∙ means c.code.result C.Else c.try_from.ensures c.in_ok-try_from.was c.in-Else.is in
    sym (says_else r is)

pub returns-in-End : goal.returns-in-End
unfolding code op statement stated
returns-in-End c =
    let r = r (goal.at.returns-in-End c).Start in
    let is = sym c.code.ensures ∙ means c.code.result C.End c.try_from.ensures c.in_ok-try_from.was c.in-End.is in
    sym (says_end r is)
