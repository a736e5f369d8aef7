-- `operations::rows::op_drain` meets its contract. Assumes nothing.
use Rattle.operations.specs.Rows.{drain_done, after_drain}
use Rattle.operations.proofs.Packs.{packs}
use Rattle.operations.proofs.rows.op_drain.Goals as goal

pub returns : goal.returns
unfolding drain_done
returns c = rw (← c.index_at.ensures)
    (packs (after_drain c.args.t) c.drain-drained.ensures c.drain_shown.ensures)
