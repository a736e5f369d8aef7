-- `ipc::register_holds` meets its contract: the test, and the call on a table that passed it. Assumes nothing.
use borrow.Author.Rules.{rules}
use Rattle.ipc_sound.proofs.Guards.{refused, served, passed}
use Rattle.ipc.proofs.register_holds.Goals as goal

pub returns-then-not-sound : goal.returns-then-not-sound
returns-then-not-sound c = search (refused, rules)

pub register_holds-requires : goal.register_holds-requires
register_holds-requires c = passed _ c.sound.ensures c.if-not-sound.false

pub returns : goal.returns
returns c = served _ c.sound.ensures _ c.if-not-sound.false c.register_holds.ensures
