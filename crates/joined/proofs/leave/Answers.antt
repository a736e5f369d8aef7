-- `joined::leave` meets its contract: the test, and the step on a table that passed it. Assumes nothing.
use borrow.Author.Rules.{rules}
use Rattle.ipc_sound.proofs.Guards.{refused, served, passed}
use Rattle.joined.proofs.leave.Goals as goal

pub returns-then-not-sound : goal.returns-then-not-sound
returns-then-not-sound c = search (refused, rules)

pub leave-requires : goal.leave-requires
leave-requires c = passed _ c.sound.ensures c.if-not-sound.false

pub returns : goal.returns
returns c = served _ c.sound.ensures _ c.if-not-sound.false c.leave.ensures
