-- `Pair::for_fits` meets its contract: the hold rows are the records after it.
use Prim.Native.Nat.{◌+◌}
use mathlib.Core.Path.{◌≡◌, ap, ◌∙◌}
use mathlib.Core.Bool.{◌&&◌}
use Rattle.kernel.specs.File.{fors}
use Rattle.kernel.specs.Check as Check
use Rattle.kernel.specs.Named.{code}
use Rattle.parts.specs.Records.{rec}
use Rattle.parts.specs.Parts.{kernel, records_in, derivation_part}
use Rattle.parts.proofs.Parts.{derivation_is, arrays_count, buffers_are}
use Rattle.check_rows.specs.View.{rows_fit_from}
use Rattle.check_rows.proofs.Rows.{for_rows}
use Rattle.check_rules.proofs.Fitting.{refused, passed}
use Rattle.check_rules.proofs.Pair.for_fits.Goals.{After-derivation-records, Joined-codes, then-codes, else-codes}
use Rattle.check_rules.proofs.Pair.for_fits.Goals as goal

-- the two statements
module _ (c : Joined-codes) where
  statements : c.if-codes.value ≡ Check.codes fors fors (rec c.args.self.array) (rec c.args.self.stream) && Check.same_pqk (rec c.args.self.array) (rec c.args.self.stream)
  unfolding code
  statements =
      elim c.if-codes.branch [
        | then-codes w ↦ rw (passed c.codes.ensures w.if-codes.true) (w.value-is ∙ w.same_pqk.ensures)
        | else-codes w ↦ rw (refused c.codes.ensures w.if-codes.false) (w.value-is ∙ w.if-codes.false)
      ]

pub returns-then-same_pqk : goal.returns-then-same_pqk
unfolding Check.fits
returns-then-same_pqk c d r l =
    let k = c.args.kernel in
    let file = k.file.now in
    let n = k.counts in
    let t = c.derivation-records.ensures in
    let s = c.sections.ensures in
    rw (passed (statements (goal.at.returns-then-same_pqk c).Joined-codes) c.if-same_pqk.true)
    (c.rows_fit.ensures
    ∙ ap (rows_fit_from (c.args.level + 1) (c.args.rule + 1) n.a n.b) (λ i. records_in ((t.0 ∙ s.0) i).now ((t.1 ∙ ap derivation_part s.1) i))
    ∙ for_rows (kernel file n) d (records_in file (derivation_part n)) n.a n.b c.args.rule c.args.level (derivation_is file n) (arrays_count file n) (buffers_are file n) r l)

pub returns-else-same_pqk : goal.returns-else-same_pqk
unfolding Check.fits
returns-else-same_pqk c d r l =
    rw (refused (statements (goal.at.returns-else-same_pqk c).Joined-codes) c.if-same_pqk.false) c.if-same_pqk.false
