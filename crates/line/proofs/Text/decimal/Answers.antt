-- `line::Text::decimal` meets its contract. The invariant: the digits of what is left go before the text to the same end, and there is room for them.
use mathlib.Core.Path.{refl, sym, subst, ◌∙◌}
use native.Mathlib.Omega.{arith}
use Rattle.line.specs.View.{Shows}
use Rattle.kernel.proofs.Digits.{digit}
use Rattle.line.proofs.Digits.{Room, room_begins, room_less, next_digit}
use Rattle.line.proofs.Text.decimal.Goals as goal

pub loop-rest-init : goal.loop-rest-init
loop-rest-init c =
    (λ u s. (u, s, refl), room_begins c.args.n c.args.self.from (omega arith), c.requires.1)

pub overflow_cast-rest : goal.overflow_cast-rest
overflow_cast-rest c =
    omega arith

pub overflow_add-rest : goal.overflow_add-rest
overflow_add-rest c =
    omega arith

pub byte-t-requires : goal.byte-t-requires
byte-t-requires c =
    (omega (arith, c.loop-rest.invariant.1.spare, c.requires.0), c.loop-rest.invariant.2)

pub loop-rest-smaller : goal.loop-rest-smaller
loop-rest-smaller c =
    omega (arith, c.loop-rest-test.true)

pub loop-rest-preserved : goal.loop-rest-preserved
loop-rest-preserved c =
    let v = c.loop-rest in
    let h = c.loop-rest-test.true in (
      λ u s.
          let w = v.invariant.0 u s in
          (_, c.byte-t.ensures.0 w.0 w.1, sym (next_digit v.rest w.0 h) ∙ w.2),
      room_less v.rest c.args.self.from c.byte-t.result.from h (subst (Room v.rest c.args.self.from) (sym c.byte-t.ensures.1) v.invariant.1),
      omega (arith, c.byte-t.ensures.1, v.invariant.2),
    )

pub overflow_cast-rest-2 : goal.overflow_cast-rest-2
overflow_cast-rest-2 c =
    omega (arith, c.loop-rest-test.false)

pub overflow_add-rest-2 : goal.overflow_add-rest-2
overflow_add-rest-2 c =
    omega (arith, c.loop-rest-test.false)

pub byte-requires : goal.byte-requires
byte-requires c =
    (omega (arith, c.loop-rest.invariant.1.spare, c.requires.0), c.loop-rest.invariant.2)

pub returns : goal.returns
returns c =
    let v = c.loop-rest in (
      λ u s.
          let w = v.invariant.0 u s in
          subst (Shows c.byte.result) (sym (digit v.rest v.rest w.0 (omega (arith, c.loop-rest-test.false))) ∙ w.2) (c.byte.ensures.0 w.0 w.1),
      omega (arith, c.byte.ensures.1, v.invariant.1.spare),
      omega (arith, c.byte.ensures.1, v.invariant.2),
    )
