-- `operations::counts::op_holders` meets its contract. Assumes nothing.
use Rattle.operations.specs.Channels.{holders_done, after_holders}
use Rattle.operations.proofs.Packs.{packs}
use Rattle.operations.proofs.counts.op_holders.Goals as goal

pub returns : goal.returns
unfolding holders_done
returns c = rw (← c.id_at.ensures)
    (packs (after_holders c.args.t) c.send_holders-answer.ensures c.shown.ensures)
