-- `operations::holds::op_release` meets its contract. Assumes nothing.
use Rattle.operations.specs.Holds.{release_done, after_release}
use Rattle.operations.proofs.Packs.{packs}
use Rattle.operations.proofs.holds.op_release.Goals as goal

pub returns : goal.returns
unfolding release_done
returns c = rw (← c.list_slots.ensures)
    (packs (after_release c.args.t) c.release_holds-released.ensures c.woken_shown.ensures)
