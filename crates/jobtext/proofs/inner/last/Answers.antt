-- `jobtext::inner::last` meets its contract. Assumes nothing.
use native.Mathlib.Omega.{arith}
use Rattle.line.proofs.Room.{lent_within, refused}
use Rattle.jobtext.proofs.Tells.{last_stands, last_crowded}
use Rattle.jobtext.proofs.inner.last.Goals as goal

pub overflow_add-result : goal.overflow_add-result
overflow_add-result c = omega (arith, lent_within c.args.out.now c.args.at _ c.requires c.write_last.ensures.answer _ c.in-Ok.is)

pub returns-in-Ok-clause-answer : goal.returns-in-Ok-clause-answer
returns-in-Ok-clause-answer c = (last_stands _ _ _ _ _ c.requires _ _ c.write_last.ensures.answer c.write_last.ensures.buffer _ c.in-Ok.is).0

pub returns-in-Ok-clause-buffer : goal.returns-in-Ok-clause-buffer
returns-in-Ok-clause-buffer c = (last_stands _ _ _ _ _ c.requires _ _ c.write_last.ensures.answer c.write_last.ensures.buffer _ c.in-Ok.is).1

pub returns-in-Err-clause-answer : goal.returns-in-Err-clause-answer
returns-in-Err-clause-answer c = (last_crowded _ _ _ _ _ c.requires _ _ c.write_last.ensures.answer c.write_last.ensures.buffer (refused c.in-Err.is)).0

pub returns-in-Err-clause-buffer : goal.returns-in-Err-clause-buffer
returns-in-Err-clause-buffer c = (last_crowded _ _ _ _ _ c.requires _ _ c.write_last.ensures.answer c.write_last.ensures.buffer (refused c.in-Err.is)).1
