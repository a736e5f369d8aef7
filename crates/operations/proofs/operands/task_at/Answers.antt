-- `operations::operands::task_at` meets its contract. Assumes nothing.
use mathlib.Core.Path.{refl}
use Rattle.operations.proofs.operands.task_at.Goals as goal

pub returns : goal.returns
returns c = rw (← c.u16_at-2.ensures, ← c.u16_at.ensures) refl
