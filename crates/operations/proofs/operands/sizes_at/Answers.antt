-- `operations::operands::sizes_at` meets its contract. Assumes nothing.
use mathlib.Core.Path.{refl}
use Rattle.operations.proofs.operands.sizes_at.Goals as goal

pub returns : goal.returns
returns c = rw (← c.index_at-3.ensures, ← c.index_at-2.ensures, ← c.index_at.ensures) refl
