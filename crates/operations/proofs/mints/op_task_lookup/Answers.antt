-- `operations::mints::op_task_lookup` meets its contract. Assumes nothing.
use Rattle.operations.specs.Mints.{task_lookup_done, after_lookup}
use Rattle.operations.proofs.Packs.{packs}
use Rattle.operations.proofs.mints.op_task_lookup.Goals as goal

pub returns : goal.returns
unfolding task_lookup_done
returns c = rw (← c.id_at.ensures)
    (packs (after_lookup c.args.t) c.lookup-answer.ensures c.shown.ensures)
