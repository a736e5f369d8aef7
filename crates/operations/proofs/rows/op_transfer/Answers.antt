-- `operations::rows::op_transfer` meets its contract. Assumes nothing.
use Rattle.operations.specs.Rows.{transfer_done, after_transfer}
use Rattle.operations.proofs.Packs.{packs}
use Rattle.operations.proofs.rows.op_transfer.Goals as goal

pub returns : goal.returns
unfolding transfer_done
returns c = rw (← c.index_at-to_slot.ensures, ← c.index_at-to_row.ensures, ← c.index_at-from_slot.ensures, ← c.index_at-from_row.ensures)
    (packs (after_transfer c.args.t) c.transfer-transferred.ensures c.shown.ensures)
