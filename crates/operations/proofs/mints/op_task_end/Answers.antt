-- `operations::mints::op_task_end` meets its contract. Assumes nothing.
use Rattle.operations.specs.Mints.{task_end_done, after_task_end}
use Rattle.operations.proofs.Packs.{packs}
use Rattle.operations.proofs.mints.op_task_end.Goals as goal

pub returns : goal.returns
unfolding task_end_done
returns c = rw (← c.u32_at.ensures)
    (packs (after_task_end c.args.t) c.revoke_task-ended.ensures c.revoke_shown.ensures)
