-- `jobscript::inner::step` meets its contract: each way out of it is a way of the rule. Assumes nothing.
use Rattle.jobscript.proofs.Steps.{faulty, took}
use Rattle.jobscript.proofs.inner.step.Goals as goal

pub returns-in-Ok : goal.returns-in-Ok
returns-in-Ok c = took _ _ c.read_record.ensures _ _ c.in-Ok.is c.apply-done.ensures

pub returns-in-Err : goal.returns-in-Err
returns-in-Err c = faulty _ _ c.read_record.ensures c.in-Err.is c.from-refusal.ensures c.shown.ensures
