-- `jobscript::messages::op_receive` meets its contract. Assumes nothing.
use Rattle.jobscript.specs.Operations.{receive_done, after_receive}
use Rattle.jobscript.proofs.Packs.{packs}
use Rattle.jobscript.proofs.messages.op_receive.Goals as goal

pub returns : goal.returns
unfolding receive_done
returns c = rw (← c.index_at-slot.ensures, ← c.index_at-row.ensures)
    (packs after_receive c.receive-received.ensures c.shown.ensures)
