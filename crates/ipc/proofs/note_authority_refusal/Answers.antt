-- `ipc::note_authority_refusal` meets its contract: the test, and the call on a table that passed it. Assumes nothing.
use borrow.Author.Rules.{rules}
use Rattle.ipc_sound.proofs.Guards.{refused, served, passed}
use Rattle.ipc.proofs.note_authority_refusal.Goals as goal

pub returns-then-not-sound : goal.returns-then-not-sound
returns-then-not-sound c = search (refused, rules)

pub note_authority_refusal-requires : goal.note_authority_refusal-requires
note_authority_refusal-requires c = passed _ c.sound.ensures c.if-not-sound.false

pub returns : goal.returns
returns c = served _ c.sound.ensures _ c.if-not-sound.false c.note_authority_refusal.ensures
