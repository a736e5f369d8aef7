-- `operations::channels::op_revoke` meets its contract. Assumes nothing.
use Rattle.operations.specs.Channels.{revoke_done, after_revoke}
use Rattle.operations.proofs.Packs.{packs}
use Rattle.operations.proofs.channels.op_revoke.Goals as goal

pub returns : goal.returns
unfolding revoke_done
returns c = rw (← c.id_at.ensures)
    (packs (after_revoke c.args.t) c.revoke_channel-revoked.ensures c.shown.ensures)
