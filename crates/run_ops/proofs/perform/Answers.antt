-- `run_ops::perform` meets its contract: an arm for each kind of statement.
use mathlib.Core.Path.{subst}
use native.Mathlib.Omega.{arith}
use Rattle.numbers.specs.Words.{words}
use Rattle.parts.specs.Statements.{op}
use Rattle.parts.proofs.Room.{form_room}
use Rattle.run_loops.specs.View.{counters}
use Rattle.run_ops.specs.Layout.{layout}
use Rattle.run_ops.specs.Statements.{Performs}
use Rattle.run_ops.proofs.perform.Goals as goal

pub set-requires : goal.set-requires
unfolding op
set-requires c =
    let s = subst (λ o. Performs (op o)) c.in-Set.is c.requires.0 in
    (omega (arith, s.fits.0, s.few_registers), form_room _ s.fits.1, c.requires.1)

pub returns-in-Set : goal.returns-in-Set
unfolding op
returns-in-Set c = (rw c.in-Set.is (c.set.ensures (layout c.args.arrays.now) (words c.args.output.now)), c.requires.2)

pub copy-requires : goal.copy-requires
unfolding op
copy-requires c =
    let s = subst (λ o. Performs (op o)) c.in-Copy.is c.requires.0 in
    (omega (arith, s.fits.0, s.few_registers), omega (arith, s.fits.1, s.few_registers))

pub returns-in-Copy : goal.returns-in-Copy
unfolding op
returns-in-Copy c = (rw c.in-Copy.is (c.copy.ensures (layout c.args.arrays.now) (counters c.args.a.now) (words c.args.output.now)), c.requires.2)

pub work-requires : goal.work-requires
unfolding op
work-requires c =
    let s = subst (λ o. Performs (op o)) c.in-Work.is c.requires.0 in
    (omega (arith, s.fits.0, s.few_registers), omega (arith, s.fits.1, s.few_registers), omega (arith, s.fits.2, s.few_registers))

pub returns-in-Work : goal.returns-in-Work
unfolding op
returns-in-Work c = (rw c.in-Work.is (c.work.ensures (layout c.args.arrays.now) (counters c.args.a.now) (words c.args.output.now)), c.requires.2)

pub load-requires : goal.load-requires
unfolding op
load-requires c =
    let s = subst (λ o. Performs (op o)) c.in-Load.is c.requires.0 in
    (omega (arith, s.fits.0, s.few_registers), omega (arith, s.fits.1.there, s.few_arrays), form_room _ s.fits.2, c.requires.1)

pub returns-in-Load : goal.returns-in-Load
unfolding op
returns-in-Load c = (rw c.in-Load.is (c.load.ensures (words c.args.output.now)), c.requires.2)

pub store-requires : goal.store-requires
unfolding op
store-requires c =
    let s = subst (λ o. Performs (op o)) c.in-Store.is c.requires.0 in
    (omega (arith, s.fits.0, s.few_registers), omega (arith, s.fits.1.there, s.few_arrays), form_room _ s.fits.2, c.requires.1, c.requires.2)

pub returns-in-Store : goal.returns-in-Store
unfolding op
returns-in-Store c = (rw c.in-Store.is (c.store.ensures.0 (words c.args.arrays.now.input.now)), c.store.ensures.1)

pub read-requires : goal.read-requires
unfolding op
read-requires c =
    let s = subst (λ o. Performs (op o)) c.in-Read.is c.requires.0 in
    (omega (arith, s.fits.0, s.few_registers), omega (arith, s.fits.1.there, s.few_arrays))

pub returns-in-Read : goal.returns-in-Read
unfolding op
returns-in-Read c = (rw c.in-Read.is (c.read.ensures (counters c.args.a.now) (words c.args.output.now)), c.requires.2)

pub write-requires : goal.write-requires
unfolding op
write-requires c =
    let s = subst (λ o. Performs (op o)) c.in-Write.is c.requires.0 in
    (omega (arith, s.fits.0, s.few_registers), omega (arith, s.fits.1.there, s.few_arrays), c.requires.2)

pub returns-in-Write : goal.returns-in-Write
unfolding op
returns-in-Write c = (rw c.in-Write.is (c.write.ensures.0 (counters c.args.a.now) (words c.args.arrays.now.input.now)), c.write.ensures.1)
