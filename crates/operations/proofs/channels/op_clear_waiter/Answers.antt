-- `operations::channels::op_clear_waiter` meets its contract. Assumes nothing.
use Rattle.operations.specs.Channels.{clear_done, after_clear}
use Rattle.operations.proofs.Packs.{packs}
use Rattle.operations.proofs.channels.op_clear_waiter.Goals as goal

pub returns : goal.returns
unfolding clear_done
returns c = rw (← c.task_at.ensures)
    (packs (after_clear c.args.t) c.clear_waiter-cleared.ensures c.shown.ensures)
