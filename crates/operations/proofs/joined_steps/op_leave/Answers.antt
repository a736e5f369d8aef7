-- `operations::joined_steps::op_leave` meets its contract. Assumes nothing.
use Rattle.operations.specs.Joined.{leave_done, after_leave}
use Rattle.operations.proofs.Packs.{packs}
use Rattle.operations.proofs.joined_steps.op_leave.Goals as goal

pub returns : goal.returns
unfolding leave_done
returns c = rw (← c.index_at.ensures)
    (packs (after_leave c.args.t) c.leave-left.ensures c.woken_shown.ensures)
