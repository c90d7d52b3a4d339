-- `memory::put_back` meets its contract: there is an item for every cell of the orders, and what no order names is cleared.
use Prim.Native.Nat.{◌*◌}
use mathlib.Core.Path.{sym, ap, ◌∙◌}
use mathlib.Core.List.{map}
use lib.ListN.{replicate}
use Rattle.numbers.specs.Lists.{sum}
use Rattle.kernel.specs.File.{output, only, length_of}
use Rattle.kernel.specs.Named.{side}
use Rattle.kernel.specs.Memory.{cells}
use Rattle.kernel.proofs.Orders.{cells_length}
use Rattle.parts.specs.Arrays.{measure}
use Rattle.memory.specs.Sizes.{declared}
use Rattle.memory.specs.Items.{carried}
use Rattle.memory.proofs.Carried.{put_back}
use Rattle.memory.proofs.put_back.Goals as goal

pub returns : goal.returns
unfolding measure side
returns c =
    let a = c.args in
    let arrays = declared a.arrays in
    let cs = cells output 0 arrays in
    c.carry_all.ensures
    ∙ ap (carried 2 0 cs a.from.now) (c.clear.ensures ∙ ap (λ n. replicate n 0) c.requires.cells)
    ∙ put_back a.from.now cs (sum (map (only output length_of) arrays)) (c.requires.items ∙ ap (λ n. 4 * n) (sym (cells_length output 0 arrays)))
