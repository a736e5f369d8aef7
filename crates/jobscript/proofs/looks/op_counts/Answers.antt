-- `jobscript::looks::op_counts` meets its contract. Assumes nothing.
use mathlib.Core.Path.{ap}
use Rattle.shown.specs.declared.Shown.{Shown}
use Rattle.jobscript.specs.Done.{outcome}
use Rattle.jobscript.specs.Operations.{counts_done}
use Rattle.jobscript.proofs.looks.op_counts.Goals as goal

pub returns : goal.returns
unfolding counts_done
returns c = ap (λ (s : Shown). outcome s c.args.desk) c.shown.ensures
