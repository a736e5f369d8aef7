-- What a part fills lies in the buffer, and what follows it goes on at the place that is kept.
use Rattle.standard.proofs.Following.{goes_on}
use Rattle.jobtext.proofs.Printed.{part_inside}
use Rattle.jobs.proofs.AnswersOnward.put.Goals as goal

pub returns : goal.returns
returns c = record {
  inside = part_inside _ _ _ _ _ c.answer-part.ensures.answer c.answer-part.ensures.buffer;
  on = rw c.then_some.ensures (goes_on _ _);
}
