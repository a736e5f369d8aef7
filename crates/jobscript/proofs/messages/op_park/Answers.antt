-- `jobscript::messages::op_park` meets its contract. Assumes nothing.
use Rattle.jobscript.specs.Operations.{park_done, after_park}
use Rattle.jobscript.proofs.Packs.{packs}
use Rattle.jobscript.proofs.messages.op_park.Goals as goal

pub returns : goal.returns
unfolding park_done
returns c = rw (← c.task-me.ensures, ← c.index_at-slot.ensures, ← c.index_at-row.ensures)
    (packs after_park c.park-parked.ensures c.slot_park_shown.ensures)
