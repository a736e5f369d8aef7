-- `dispatcher::inner::closing::end` meets its contract: an id that has holds opens for send, and one that has none does not. Assumes nothing.
use Rattle.dispatcher_rules.specs.Close.{end_of}
use Rattle.dispatcher_rules.proofs.Choices.{held, held_not}
use Rattle.dispatcher.proofs.inner.closing.end.Goals as goal

pub returns-in_default : goal.returns-in_default
unfolding end_of
returns-in_default c = held_not _ _ c.send_holders.ensures _ _ c.in_default.not-Ok

pub returns : goal.returns
unfolding end_of
returns c = rw (c.woken-waiter.ensures, c.revoke_channel-revoked.ensures)
    (held _ _ c.send_holders.ensures _ _ _ c.in-Ok.is)
