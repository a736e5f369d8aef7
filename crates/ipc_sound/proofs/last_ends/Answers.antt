-- `ipc_sound::last_ends`: the invariant is that the last ends below `i` are remembered. Assumes nothing.
use borrow.Author.Rules.{rules}
use Rattle.ipc_sound.proofs.LastEnds.{remembers_none, remembers_more}
use Rattle.ipc_sound.proofs.last_ends.Goals as goal

pub loop-i-init : goal.loop-i-init
loop-i-init c = search (rules, remembers_none)

pub loop-i-preserved : goal.loop-i-preserved
loop-i-preserved c = search (rules, remembers_more)
