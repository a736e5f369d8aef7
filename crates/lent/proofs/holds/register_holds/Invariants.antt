-- What the records still to come register in the table of a turn is what all of them do in the first, and it is sound.
use Rattle.std.proofs.Common.{◌≡◌, drop}
use Rattle.walks.specs.Over.{over}
use Rattle.ipc_rules.specs.Holds.{registered}
use Rattle.ipc_rules.specs.Sound.{Sound}
use Rattle.lent.proofs.holds.register_holds.Given as goal

abbrev pub invariant-loop-slot : goal.invariant-loop-slot
invariant-loop-slot l = (over registered l.table (drop l.slot-index l.slots) ≡ over registered l.initial.table l.slots) × Sound l.table
