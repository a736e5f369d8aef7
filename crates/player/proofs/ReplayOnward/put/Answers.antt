-- What a part fills lies in the buffer, and what follows it goes on at the place that is kept.
use Rattle.standard.proofs.Following.{goes_on}
use Rattle.oplog.proofs.Printed.{part_inside}
use Rattle.player.proofs.ReplayOnward.put.Goals as goal

pub returns : goal.returns
returns c = record {
  inside = rw (c.replay-part.ensures.answer, c.replay-part.ensures.buffer) (part_inside _ _ _);
  on = rw c.then_some.ensures (goes_on _ _);
}
