-- `planner::packed` meets its contract: each part has 16 bits.
use Rattle.std.proofs.Common.{◌≡◌, length, rules}
use Rattle.planner.proofs.Parts.{four}
use Rattle.planner.proofs.packed.Goals as goal

pub returns : goal.returns
returns c =
    let long : length c.args.parts ≡ 4 = search rules in
    rw (c.from.ensures, c.from-2.ensures, c.from-3.ensures, c.from-4.ensures) (four c.args.parts long (search rules))
