-- `run_ops::set` meets its contract: the form's value, and its low bits.
use mathlib.Core.Path.{sym, ap, ◌∙◌}
use Rattle.numbers.specs.Result.{ok}
use Rattle.numbers.specs.Words.{low32}
use Rattle.numbers.proofs.Signs.{as_returned}
use Rattle.forms.specs.Code.{form}
use Rattle.kernel.specs.File.{set}
use Rattle.kernel.specs.Machine.{perform, put}
use Rattle.run_loops.specs.View.{counters}
use Rattle.run_ops.specs.States.{state}
use Rattle.run_ops.proofs.States.{ends, put_there}
use Rattle.run_ops.proofs.set.Goals as goal

pub value-requires : goal.value-requires
value-requires c = (c.requires.1, c.requires.2.each)

pub returns : goal.returns
unfolding perform
returns c =
    let g = c.args in
    let is = c.low32.ensures ∙ ap low32 (as_returned {z = c.value.result} c.value.type_inv ∙ c.value.ensures) in
    λ e ws n. ends e n (set g.p (form g.f)) (counters g.a.now) (state g.machine.now ws)
    (ap ok (ap (λ w. put g.p w (state g.machine.now ws)) (sym is) ∙ put_there g.machine.now ws g.p c.low32.result))
