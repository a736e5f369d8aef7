-- What a line shows of a slot's answer is at most twelve values. Assumes nothing.
use Rattle.std.specs.Prelude.{Err, Ok, Result}
use lib.Dec.{lit≤}
use Rattle.shown.proofs.Few.{Few}
use Rattle.cap.specs.Slot.{slot_values}
use Rattle.cap.specs.declared.slot.SlotError.TheVariants.{OutOfRange, Vacant}
use Rattle.cap.specs.declared.CapId.{CapId}
use Rattle.cap.specs.declared.slot.SlotError.{SlotError}

pub slot_few : (a : Result CapId SlotError) → Few (slot_values a)
slot_few (Ok c) = lit≤ tt
slot_few (Err (OutOfRange s n)) = lit≤ tt
slot_few (Err (Vacant s)) = lit≤ tt
