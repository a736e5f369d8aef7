-- `ipc_sound::endpoints_ok`: the invariant is the test below `i`. Assumes nothing.
use borrow.Author.Rules.{rules}
use Rattle.laws.proofs.Every.{every_none, every_step}
use Rattle.ipc_sound.proofs.endpoints_ok.Goals as goal

pub loop-i-init : goal.loop-i-init
loop-i-init c = search every_none

pub loop-i-preserved : goal.loop-i-preserved
loop-i-preserved c = search (rules, every_step)
