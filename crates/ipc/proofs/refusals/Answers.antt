-- `ipc::refusals` meets its contract. Assumes nothing.
use mathlib.Core.Path.{refl}
use Rattle.ipc_sound.proofs.Guards.{refused, served}
use Rattle.ipc.proofs.refusals.Goals as goal

pub returns-then-not-sound : goal.returns-then-not-sound
returns-then-not-sound c = refused _ c.sound.ensures _ c.if-not-sound.true refl

pub returns : goal.returns
returns c = served _ c.sound.ensures _ c.if-not-sound.false refl
