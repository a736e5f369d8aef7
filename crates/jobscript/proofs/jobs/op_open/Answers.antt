-- `jobscript::jobs::op_open` meets its contract. Assumes nothing.
use Rattle.jobscript.specs.Operations.{open_done, after_open}
use Rattle.jobscript.proofs.Packs.{packs}
use Rattle.jobscript.proofs.jobs.op_open.Goals as goal

pub returns : goal.returns
unfolding open_done
returns c = rw (← c.index_at-extractor.ensures, ← c.tag_at-tag.ensures)
    (packs after_open c.open-opened.ensures c.shown.ensures)
