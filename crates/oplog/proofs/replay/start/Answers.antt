-- `oplog::replay::start` meets its contract. Assumes nothing.
use mathlib.Core.Path.{refl}
use Rattle.operations.proofs.New.{made_fresh}
use Rattle.oplog.proofs.replay.start.Goals as goal

pub returns : goal.returns
returns c = rw (made_fresh 32 64 8 c.all_fresh-made.ensures refl) refl
