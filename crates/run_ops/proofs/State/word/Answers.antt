-- `State::word` meets its contract: the register is set or not.
use mathlib.Core.Path.{◌≡◌, ap, ◌∙◌}
use native.Mathlib.Omega.{arith}
use lib.ListN.{length}
use Rattle.std.proofs.Common.{rules}
use Rattle.run_ops.specs.States.{worked}
use Rattle.run_ops.proofs.States.{got}
use Rattle.run_ops.proofs.State.word.Goals as goal

pub returns : goal.returns
returns c =
    let long : length c.args.self.now.registers ≡ 48 = search rules in
    λ ws. ap worked c.ok_or.ensures.value ∙ got c.args.self.now ws c.args.p (omega arith)
