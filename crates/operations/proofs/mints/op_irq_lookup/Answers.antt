-- `operations::mints::op_irq_lookup` meets its contract. Assumes nothing.
use Rattle.operations.specs.Mints.{irq_lookup_done, after_lookup}
use Rattle.operations.proofs.Packs.{packs}
use Rattle.operations.proofs.mints.op_irq_lookup.Goals as goal

pub returns : goal.returns
unfolding irq_lookup_done
returns c = rw (← c.id_at.ensures)
    (packs (after_lookup c.args.t) c.lookup-answer.ensures c.shown.ensures)
