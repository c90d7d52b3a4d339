-- `read_records::last_inside` meets its contract: in 64 bits nothing is lost.
use mathlib.Core.Path.{ap, ◌∙◌}
use Rattle.numbers.specs.Words.{inside}
use Rattle.read_records.proofs.Arrays.{product_fits, last_fits, last_is}
use Rattle.read_records.proofs.last_inside.Goals as goal

pub overflow_mul-signed : goal.overflow_mul-signed
overflow_mul-signed c =
    product_fits c.signed.ensures c.ranges.q.fits c.ranges.k.fits c.ranges.step.fits c.requires

pub overflow_add-first : goal.overflow_add-first
overflow_add-first c =
    last_fits c.signed.ensures c.ranges.q.fits c.ranges.k.fits c.ranges.step.fits c.requires

pub returns : goal.returns
returns c =
    c.inside.ensures
    ∙ ap (inside c.args.p) (last_is c.signed.ensures c.ranges.q.fits c.ranges.k.fits c.ranges.step.fits c.requires)
