-- `dispatcher::ready` meets its contract: the two tests together. Assumes nothing.
use Rattle.dispatcher_rules.proofs.Guards.{both_pass}
use Rattle.dispatcher.proofs.ready.Goals as goal

pub returns : goal.returns
returns c = both_pass _ _ c.sound.ensures c.bound.ensures
