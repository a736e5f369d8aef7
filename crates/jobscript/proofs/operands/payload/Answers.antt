-- `jobscript::operands::payload` meets its contract. Assumes nothing.
use Rattle.jobscript.proofs.operands.payload.Goals as goal

pub returns : goal.returns
returns c = rw (← c.u64_at-2.ensures, ← c.u64_at.ensures, ← c.u32_at.ensures)
