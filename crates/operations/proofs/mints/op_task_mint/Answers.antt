-- `operations::mints::op_task_mint` meets its contract. Assumes nothing.
use Rattle.operations.specs.Mints.{task_mint_done, after_task_mint}
use Rattle.operations.proofs.Packs.{packs}
use Rattle.operations.proofs.mints.op_task_mint.Goals as goal

pub returns : goal.returns
unfolding task_mint_done
returns c = rw (← c.u32_at.ensures)
    (packs (after_task_mint c.args.t) c.mint-minted.ensures c.shown.ensures)
