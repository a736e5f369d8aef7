-- `operations::rows::op_get` meets its contract. Assumes nothing.
use Rattle.operations.specs.Rows.{get_done, after_get}
use Rattle.operations.proofs.Packs.{packs}
use Rattle.operations.proofs.rows.op_get.Goals as goal

pub returns : goal.returns
unfolding get_done
returns c = rw (← c.index_at-2.ensures, ← c.index_at.ensures)
    (packs (after_get c.args.t) c.get-answer.ensures c.shown.ensures)
