-- `jobscript::operands::task` meets its contract. Assumes nothing.
use Rattle.jobscript.proofs.operands.task.Goals as goal

pub returns : goal.returns
returns c = rw (← c.u16_at-2.ensures, ← c.u16_at.ensures)
