-- `logread::little::u32_at` meets its contract. Assumes nothing.
use mathlib.Core.Path.{◌∙◌}
use Rattle.logread.proofs.Numbers.{read_off}
use Rattle.logread.proofs.little.u32_at.Goals as goal

pub returns : goal.returns
returns c = c.from_le_bytes.ensures ∙ read_off c.args.s.now c.bytes_at.result c.args.at 3 c.bytes_at.ensures.each
