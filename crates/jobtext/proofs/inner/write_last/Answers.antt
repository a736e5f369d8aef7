-- `jobtext::inner::write_last` meets its contract. Assumes nothing.
use Rattle.jobtext.proofs.Tells.{is_end_lem, is_bad}
use Rattle.jobtext.proofs.inner.write_last.Goals as goal

pub returns-then-number-eq-NONE-clause-answer : goal.returns-then-number-eq-NONE-clause-answer
returns-then-number-eq-NONE-clause-answer c = rw (← is_end_lem _ _ _ c.if-number-eq-NONE.true) c.write_end.ensures.answer

pub returns-then-number-eq-NONE-clause-buffer : goal.returns-then-number-eq-NONE-clause-buffer
returns-then-number-eq-NONE-clause-buffer c = rw (← is_end_lem _ _ _ c.if-number-eq-NONE.true) c.write_end.ensures.buffer

pub returns-clause-answer : goal.returns-clause-answer
returns-clause-answer c = rw (← is_bad _ _ _ c.if-number-eq-NONE.false) c.write_bad.ensures.answer

pub returns-clause-buffer : goal.returns-clause-buffer
returns-clause-buffer c = rw (← is_bad _ _ _ c.if-number-eq-NONE.false) c.write_bad.ensures.buffer
