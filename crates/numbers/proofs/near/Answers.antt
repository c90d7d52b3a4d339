-- `numbers::near` meets its contract.
use Rattle.std.proofs.Common.{◌∙◌, le-leb}
use Rattle.numbers.proofs.Ranges.{near_low, near_high}
use Rattle.numbers.proofs.near.Goals as goal

pub returns-then-w-n : goal.returns-then-w-n
returns-then-w-n c = le-leb c.args.w c.args.n c.if-w-n.true ∙ near_low c.args.n c.args.w c.requires c.if-w-n.true

pub returns-else-w-n : goal.returns-else-w-n
returns-else-w-n c = near_high c.args.n c.args.w c.requires c.if-w-n.false c.ranges.w.fits
