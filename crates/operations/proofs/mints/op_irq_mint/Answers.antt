-- `operations::mints::op_irq_mint` meets its contract. Assumes nothing.
use Rattle.operations.specs.Mints.{irq_mint_done, after_irq_mint}
use Rattle.operations.proofs.Packs.{packs}
use Rattle.operations.proofs.mints.op_irq_mint.Goals as goal

pub returns : goal.returns
unfolding irq_mint_done
returns c = rw (← c.u32_at.ensures)
    (packs (after_irq_mint c.args.t) c.mint-minted.ensures c.shown.ensures)
