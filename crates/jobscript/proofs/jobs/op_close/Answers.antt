-- `jobscript::jobs::op_close` meets its contract. Assumes nothing.
use Rattle.jobscript.specs.Operations.{close_done, after_close}
use Rattle.jobscript.proofs.Packs.{packs}
use Rattle.jobscript.proofs.jobs.op_close.Goals as goal

pub returns : goal.returns
unfolding close_done
returns c = rw (← c.index_at-place.ensures)
    (packs after_close c.close-closed.ensures c.shown.ensures)
