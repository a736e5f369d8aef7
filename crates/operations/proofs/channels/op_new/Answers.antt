-- `operations::channels::op_new` meets its contract. Assumes nothing.
use Rattle.operations.proofs.New.{new_refused, new_made}
use Rattle.operations.proofs.channels.op_new.Goals as goal

pub returns-in_default : goal.returns-in_default
returns-in_default c = new_refused _ _ c.sizes_at.ensures c.all_fresh-made.ensures c.shown-shown.ensures c.in_default.is

pub returns : goal.returns
returns c = new_made _ _ c.sizes_at.ensures c.all_fresh-made.ensures c.shown-shown.ensures c.in-Ok.is
