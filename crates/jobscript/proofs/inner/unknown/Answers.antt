-- `jobscript::inner::unknown` meets its contract. Assumes nothing.
use mathlib.Core.Path.{ap}
use Rattle.shown.specs.declared.Shown.{Shown}
use Rattle.jobscript.specs.Done.{outcome}
use Rattle.jobscript.proofs.inner.unknown.Goals as goal

pub returns : goal.returns
returns c = ap (λ (s : Shown). outcome s c.args.desk) c.new.ensures
