-- `operations::counts::op_counts` meets its contract. Assumes nothing.
use mathlib.Core.Path.{ap}
use Rattle.shown.specs.declared.Shown.{Shown}
use Rattle.operations.specs.Channels.{counts_done}
use Rattle.operations.specs.Done.{outcome}
use Rattle.operations.proofs.counts.op_counts.Goals as goal

pub returns : goal.returns
unfolding counts_done
returns c = ap (λ (s : Shown). outcome s c.args.t) c.shown.ensures
