-- `dispatcher::open` meets its contract: the test, and the call on what passed it. Assumes nothing.
use mathlib.Core.Path.{refl}
use Rattle.dispatcher_rules.proofs.Guards.{refused, served, passed}
use Rattle.dispatcher.proofs.open.Goals as goal

pub returns-then-not-ready : goal.returns-then-not-ready
returns-then-not-ready c = refused _ _ c.ready.ensures _ c.if-not-ready.true refl

pub open-requires : goal.open-requires
open-requires c = passed _ _ c.ready.ensures c.if-not-ready.false

pub returns : goal.returns
returns c = served _ _ c.ready.ensures _ c.if-not-ready.false c.open.ensures
