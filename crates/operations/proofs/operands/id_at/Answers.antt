-- `operations::operands::id_at` meets its contract. Assumes nothing.
use mathlib.Core.Path.{refl}
use Rattle.operations.proofs.operands.id_at.Goals as goal

pub returns : goal.returns
returns c = rw (← c.u32_at.ensures) refl
