-- `oplog::step` meets its contract: the test, and the step on tables that passed it. Assumes nothing.
use mathlib.Core.Path.{refl}
use Rattle.ipc_sound.proofs.Guards.{refused, served, passed}
use Rattle.oplog.proofs.step.Goals as goal

pub returns-then-not-sound : goal.returns-then-not-sound
returns-then-not-sound c = record { answer = refused _ c.sound.ensures _ c.if-not-sound.true refl; buffer = refused _ c.sound.ensures _ c.if-not-sound.true refl }

pub step-requires : goal.step-requires
step-requires c = passed _ c.sound.ensures c.if-not-sound.false

pub returns : goal.returns
returns c = let e = c.sound.ensures in
    let l = c.if-not-sound.false in
    record { answer = served _ e _ l c.step.ensures.answer; buffer = served _ e _ l c.step.ensures.buffer }
