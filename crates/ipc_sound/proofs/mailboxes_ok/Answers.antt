-- `ipc_sound::mailboxes_ok`: the invariant is the test below `k`. Assumes nothing.
use borrow.Author.Rules.{rules}
use Rattle.laws.proofs.Every.{every_none, every_step}
use Rattle.ipc_sound.proofs.mailboxes_ok.Goals as goal

pub loop-k-init : goal.loop-k-init
loop-k-init c = search every_none

pub loop-k-preserved : goal.loop-k-preserved
loop-k-preserved c = search (rules, every_step)
