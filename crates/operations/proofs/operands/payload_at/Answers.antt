-- `operations::operands::payload_at` meets its contract. Assumes nothing.
use mathlib.Core.Path.{refl}
use Rattle.operations.proofs.operands.payload_at.Goals as goal

pub returns : goal.returns
returns c = rw (← c.u64_at-2.ensures, ← c.u64_at.ensures, ← c.u32_at.ensures) refl
