-- `jobscript::operands::sizes` meets its contract. Assumes nothing.
use Rattle.jobscript.proofs.operands.sizes.Goals as goal

pub returns : goal.returns
returns c = rw (← c.index_at-3.ensures, ← c.index_at-2.ensures, ← c.index_at.ensures)
