-- `run_ends::depth_after` meets its contract: one law for each test that is passed.
use mathlib.Core.Path.{sym, ◌∙◌}
use native.Mathlib.Omega.{arith}
use Rattle.kernel.specs.Named.{code}
use Rattle.run_ends.proofs.Scan.{depth_after_plain, depth_after_for, depth_after_if, depth_after_closing}
use Rattle.run_ends.proofs.depth_after.Goals as goal

pub returns-then-code-from : goal.returns-then-code-from
unfolding code
returns-then-code-from c = sym (depth_after_for _ _ (c.if-code-from.true ∙ c.from.ensures))

pub returns-then-code-from-2 : goal.returns-then-code-from-2
unfolding code
returns-then-code-from-2 c = sym (depth_after_if _ _ (c.if-code-from-2.true ∙ c.from-2.ensures))

pub overflow_sub-result : goal.overflow_sub-result
unfolding code
overflow_sub-result c = c.requires.1 (omega (arith, c.if-code-from-3.true, c.from-3.ensures))

pub returns-then-code-from-3 : goal.returns-then-code-from-3
unfolding code
returns-then-code-from-3 c = sym (depth_after_closing _ _ (omega (arith, c.if-code-from-3.true, c.from-3.ensures)))

pub returns : goal.returns
unfolding code
returns c =
    sym (depth_after_plain _ _ (λ e. c.if-code-from.false (e ∙ sym c.from.ensures)) (λ e. c.if-code-from-2.false (e ∙ sym c.from-2.ensures)) (omega (arith, c.if-code-from-3.false, c.from-3.ensures)))
