-- `jobscript::step` meets its contract: the test, and the step on a desk that passed it. Assumes nothing.
use Rattle.std.specs.Prelude.{Err}
use mathlib.Core.Path.{ap}
use Rattle.shown.specs.declared.Shown.{Shown}
use Rattle.dispatcher_rules.proofs.Guards.{refused, served, passed}
use Rattle.jobscript.specs.declared.StepError.TheVariants.{BadTable}
use Rattle.jobscript.proofs.Steps.{stopped}
use Rattle.jobscript.proofs.step.Goals as goal

pub returns-then-not-ready : goal.returns-then-not-ready
returns-then-not-ready c = refused _ _ c.ready.ensures _ c.if-not-ready.true
    (ap (λ (s : Shown). stopped (Err BadTable) s c.args.desk) c.new.ensures)

pub step-requires : goal.step-requires
step-requires c = passed _ _ c.ready.ensures c.if-not-ready.false

pub returns : goal.returns
returns c = served _ _ c.ready.ensures _ c.if-not-ready.false c.step.ensures
