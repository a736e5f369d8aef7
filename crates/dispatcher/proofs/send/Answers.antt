-- `dispatcher::send` meets its contract: the test, and the call on what passed it. Assumes nothing.
use mathlib.Core.Path.{refl}
use Rattle.dispatcher_rules.proofs.Guards.{refused, served, passed}
use Rattle.dispatcher.proofs.send.Goals as goal

pub returns-then-not-ready : goal.returns-then-not-ready
returns-then-not-ready c = refused _ _ c.ready.ensures _ c.if-not-ready.true refl

pub send-requires : goal.send-requires
send-requires c = let r = passed _ _ c.ready.ensures c.if-not-ready.false in r.sound

pub returns : goal.returns
returns c = served _ _ c.ready.ensures _ c.if-not-ready.false c.send.ensures
