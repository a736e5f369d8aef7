-- `operations::joined_steps::op_give` meets its contract. Assumes nothing.
use Rattle.operations.specs.Joined.{give_done, after_give}
use Rattle.operations.proofs.Packs.{packs}
use Rattle.operations.proofs.joined_steps.op_give.Goals as goal

pub returns : goal.returns
unfolding give_done
returns c = rw (← c.id_at.ensures, ← c.index_at-slot.ensures, ← c.index_at-row.ensures)
    (packs (after_give c.args.t) c.give-given.ensures c.shown.ensures)
