-- `operations::rows::op_install` meets its contract. Assumes nothing.
use Rattle.operations.specs.Rows.{install_done, after_install}
use Rattle.operations.proofs.Packs.{packs}
use Rattle.operations.proofs.rows.op_install.Goals as goal

pub returns : goal.returns
unfolding install_done
returns c = rw (← c.id_at.ensures, ← c.index_at-slot.ensures, ← c.index_at-row.ensures)
    (packs (after_install c.args.t) c.install-installed.ensures c.shown.ensures)
