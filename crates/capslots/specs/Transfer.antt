-- Document 01, "Rows and binding": transfer, its refusals in their order.
use Rattle.std.specs.Prelude.{Bool, true, false, not, ◌&&◌, ℕ, eqb, leb, Err, Ok, Result, ⊤}
use Rattle.laws.specs.Pick.{pick}
use Rattle.cap.specs.Id.{class_of}
use Rattle.cap.specs.Slot.{vacant_slot, holding}
use Rattle.cap.specs.declared.CapClass.{CapClass}
use Rattle.cap.specs.declared.CapClass.TheVariants.{Endpoint, Task, Irq, Invalid}
use Rattle.capslots.specs.Table.{slot_in, with_slot}
use Rattle.capslots.specs.declared.Table.{Table}
use Rattle.capslots.specs.declared.answers.TransferError.TheVariants.{BadFromSlot, ToSlotFull, ToSlotOob, Untransferable, BadRow}
use Rattle.capslots.specs.declared.answers.TransferError.{TransferError}
use Rattle.shown.specs.declared.Answered.{Answered}

abbrev pub is_endpoint : CapClass → Bool
is_endpoint (Endpoint n) = true
is_endpoint (Task n) = false
is_endpoint (Irq n) = false
is_endpoint Invalid = false

-- from-slot bound (11), to-slot bound (13)
unfoldable pub bounds_of : ℕ → ℕ → Result ⊤ TransferError
bounds_of s s' = pick (leb 4 s) (Err BadFromSlot) (pick (leb 4 s') (Err ToSlotOob) (Ok tt))

-- a refused transfer changes nothing
abbrev pub refused_by : Result ⊤ TransferError → Table → Answered (Result ⊤ TransferError) Table
refused_by a t = record { answer = a; table = t }

-- the id of slot s of row r moved to slot s' of row r'
abbrev pub moved : Table → ℕ → ℕ → ℕ → ℕ → Table
moved t r s r' s' = with_slot (with_slot t r s vacant_slot) r' s' (holding (slot_in t r s).id)

-- from-slot bound (11), to-slot bound (13), same row and slot is success even if empty or out of range as a row, source row (19),
-- source empty (11), class not endpoint (14), destination row (19), destination full (12)
unfoldable pub transfer_of : Table → ℕ → ℕ → ℕ → ℕ → Answered (Result ⊤ TransferError) Table
transfer_of t r s r' s' =
    pick (leb 4 s) (refused_by (Err BadFromSlot) t)
    (pick (leb 4 s') (refused_by (Err ToSlotOob) t)
    (pick (eqb r r' && eqb s s') (record { answer = Ok tt; table = t })
    (pick (leb 54 r) (refused_by (Err BadRow) t)
    (pick (not (slot_in t r s).present) (refused_by (Err BadFromSlot) t)
    (pick (not (is_endpoint (class_of (slot_in t r s).id))) (refused_by (Err Untransferable) t)
    (pick (leb 54 r') (refused_by (Err BadRow) t)
    (pick (slot_in t r' s').present (refused_by (Err ToSlotFull) t)
    (record { answer = Ok tt; table = moved t r s r' s' }))))))))
