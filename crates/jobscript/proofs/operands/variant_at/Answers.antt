-- `jobscript::operands::variant_at` meets its contract. Assumes nothing.
use Rattle.jobscript.proofs.operands.variant_at.Goals as goal

pub returns : goal.returns
returns c = rw (← c.index_at.ensures, ← c.tag_at.ensures)
