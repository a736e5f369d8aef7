-- `operations::reasons::with_reason` meets its contract. Assumes nothing.
use Rattle.laws.proofs.Cases.{cases}
use Rattle.operations.specs.Channels.{reasoned_in}
use Rattle.operations.proofs.reasons.with_reason.Goals as goal

-- another number than BadCap's
pub returns-then-answer-ne-BAD_CAP : goal.returns-then-answer-ne-BAD_CAP
unfolding reasoned_in
returns-then-answer-ne-BAD_CAP c = search cases

pub returns : goal.returns
unfolding reasoned_in
returns c = rw (c.shown.ensures, c.why_shut-why.ensures) (search cases)
