-- `memory::lay_out` meets its contract: every item of the streams is written, so nothing of what stood there is left.
use Prim.Native.Nat.{◌*◌}
use mathlib.Core.Path.{sym, ap, ◌∙◌}
use Rattle.kernel.specs.File.{input}
use Rattle.kernel.specs.Named.{side}
use Rattle.kernel.specs.Memory.{cells}
use Rattle.kernel.proofs.Orders.{cells_length}
use Rattle.parts.specs.Arrays.{measure}
use Rattle.memory.specs.Sizes.{declared}
use Rattle.memory.proofs.Carried.{laid}
use Rattle.memory.proofs.lay_out.Goals as goal

pub returns : goal.returns
unfolding measure side
returns c =
    let a = c.args in
    let arrays = declared a.arrays in
    c.carry_all.ensures
    ∙ laid a.from.now (cells input 0 arrays) a.to.now (c.requires ∙ ap (λ n. 4 * n) (sym (cells_length input 0 arrays)))
