-- `operations::channels::op_create` meets its contract. Assumes nothing.
use Rattle.operations.specs.Channels.{create_done, after_create}
use Rattle.operations.proofs.Packs.{packs}
use Rattle.operations.proofs.channels.op_create.Goals as goal

pub returns : goal.returns
unfolding create_done
returns c = rw (← c.byte_at.ensures)
    (packs (after_create c.args.t) c.create-created.ensures c.shown.ensures)
