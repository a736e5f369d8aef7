-- `jobscript::messages::op_send` meets its contract. Assumes nothing.
use Rattle.jobscript.specs.Operations.{send_done, after_send}
use Rattle.jobscript.proofs.Packs.{packs}
use Rattle.jobscript.proofs.messages.op_send.Goals as goal

pub returns : goal.returns
unfolding send_done
returns c = rw (← c.payload-handed.ensures, ← c.index_at-slot.ensures, ← c.index_at-row.ensures)
    (packs after_send c.send-sent.ensures c.shown.ensures)
