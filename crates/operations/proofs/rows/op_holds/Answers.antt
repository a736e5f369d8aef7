-- `operations::rows::op_holds` meets its contract. Assumes nothing.
use Rattle.operations.specs.Rows.{holds_done, after_holds}
use Rattle.operations.proofs.Packs.{packs}
use Rattle.operations.proofs.rows.op_holds.Goals as goal

pub returns : goal.returns
unfolding holds_done
returns c = rw (← c.id_at.ensures, ← c.index_at.ensures)
    (packs (after_holds c.args.t) c.holds-yes.ensures c.holds_shown.ensures)
