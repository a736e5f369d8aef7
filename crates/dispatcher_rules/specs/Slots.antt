-- Request No. 5, by row and slot: 8 and 9 with the values of `get`, then what the channel table's own call answers for the id found there.
use Rattle.std.specs.Prelude.{ℕ, Err, Ok, Option, Result}
use Rattle.cap.specs.declared.CapId.{CapId}
use Rattle.cap.specs.declared.slot.SlotError.TheVariants.{OutOfRange, Vacant}
use Rattle.capslots.specs.Rows.{get_of}
use Rattle.capslots.specs.declared.Table.{Table as Rows}
use Rattle.ipc_rules.specs.Send.{send_of}
use Rattle.ipc_rules.specs.Receive.{recv_of, park_of}
use Rattle.ipc_rules.specs.declared.state.Payload.{Payload}
use Rattle.ipc_rules.specs.declared.state.TaskId.{TaskId}
use Rattle.ipc_rules.specs.declared.state.Table.{Table as Channels}
use Rattle.dispatcher_rules.specs.declared.state.Dispatcher.{Dispatcher}
use Rattle.dispatcher_rules.specs.declared.answers.SlotSending.{SlotSending}
use Rattle.dispatcher_rules.specs.declared.answers.BySlotError.TheVariants as by_slot_error
use Rattle.dispatcher_rules.specs.declared.answers.SlotReceiving.{SlotReceiving}
use Rattle.dispatcher_rules.specs.declared.answers.SlotParking.{SlotParking}
use Rattle.cap.specs.declared.slot.SlotError.{SlotError}
use Rattle.ipc_rules.specs.declared.state.Waiter.{Waiter}
use Rattle.ipc_rules.specs.declared.answers.SendError.{SendError}
use Rattle.dispatcher_rules.specs.declared.answers.BySlotError.{BySlotError}
use Rattle.ipc_rules.specs.declared.state.Message.{Message}
use Rattle.ipc_rules.specs.declared.answers.RecvError.{RecvError}
use Rattle.ipc_rules.specs.declared.answers.ParkError.{ParkError}

-- what follows from a slot: it is out of range, it is vacant, or it names an id
unfoldable pub slotted : {A : Type 0} → Result CapId SlotError → (ℕ → ℕ → A) → (ℕ → A) → (CapId → A) → A
slotted (Err (OutOfRange s n)) out vacant named = out s n
slotted (Err (Vacant s)) out vacant named = vacant s
slotted (Ok c) out vacant named = named c

-- a slot's refusal as one of a call by slot
abbrev pub refused_slot : SlotError → BySlotError
refused_slot (OutOfRange s n) = by_slot_error.OutOfRange s n
refused_slot (Vacant s) = by_slot_error.Vacant s

-- dispatcher and rows come back as they were
abbrev pub slot_sent : Result (Result Waiter SendError) BySlotError → Dispatcher → Rows → Channels → SlotSending
slot_sent a d rows u = record { answer = a; dispatcher = d; rows = rows; channels = u }

abbrev pub slot_received : Result (Result Message RecvError) BySlotError → Dispatcher → Rows → Channels → SlotReceiving
slot_received a d rows u = record { answer = a; dispatcher = d; rows = rows; channels = u }

abbrev pub slot_parked : Result (Result (Option Message) ParkError) BySlotError → Dispatcher → Rows → Channels → SlotParking
slot_parked a d rows u = record { answer = a; dispatcher = d; rows = rows; channels = u }

module _ (d : Dispatcher) (rows : Rows) (t : Channels) where
  -- request No. 10: the stamp is the row that the call names
  unfoldable pub slot_send_of : ℕ → ℕ → Payload → SlotSending
  slot_send_of r s p =
      slotted (get_of rows r s) (λ q n. slot_sent (Err (by_slot_error.OutOfRange q n)) d rows t) (λ q. slot_sent (Err (by_slot_error.Vacant q)) d rows t)
      (λ c. slot_sent (Ok (send_of t c p r).answer) d rows (send_of t c p r).table)

  unfoldable pub slot_recv_of : ℕ → ℕ → SlotReceiving
  slot_recv_of r s =
      slotted (get_of rows r s) (λ p n. slot_received (Err (by_slot_error.OutOfRange p n)) d rows t) (λ p. slot_received (Err (by_slot_error.Vacant p)) d rows t)
      (λ c. slot_received (Ok (recv_of t c).answer) d rows (recv_of t c).table)

  unfoldable pub slot_park_of : ℕ → ℕ → TaskId → SlotParking
  slot_park_of r s task =
      slotted (get_of rows r s) (λ p n. slot_parked (Err (by_slot_error.OutOfRange p n)) d rows t) (λ p. slot_parked (Err (by_slot_error.Vacant p)) d rows t)
      (λ c. slot_parked (Ok (park_of t c task).answer) d rows (park_of t c task).table)
