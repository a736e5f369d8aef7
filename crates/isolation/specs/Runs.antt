-- Request No. 5: "From fresh tables and with dispatcher calls only". The calls with their operands, what each leaves by the contracts of
-- `dispatcher`, and what sequences of them reach.
use Rattle.std.specs.Prelude.{◌≡◌, true, List, [], ◌∷◌, ℕ, Ok}
use Rattle.capslots.specs.Table.{fresh_table}
use Rattle.ipc_rules.specs.Make.{fresh_of, in_range}
use Rattle.ipc_rules.specs.declared.state.Payload.{Payload}
use Rattle.ipc_rules.specs.declared.state.Sizes.{Sizes}
use Rattle.ipc_rules.specs.declared.state.TaskId.{TaskId}
use Rattle.dispatcher_rules.specs.Make.{make_of}
use Rattle.dispatcher_rules.specs.Border.{open_job_call, close_job_call, slot_send_call, slot_recv_call, slot_park_call}
use Rattle.dispatcher_rules.specs.declared.state.Desk.{Desk}
use Rattle.dispatcher_rules.specs.declared.state.Tag.{Tag}
use Rattle.dispatcher_rules.specs.declared.state.Variant.{Variant}
use Rattle.dispatcher_rules.specs.declared.answers.JobOpening.{JobOpening}
use Rattle.dispatcher_rules.specs.declared.answers.JobClosing.{JobClosing}
use Rattle.dispatcher_rules.specs.declared.answers.SlotSending.{SlotSending}
use Rattle.dispatcher_rules.specs.declared.answers.SlotReceiving.{SlotReceiving}
use Rattle.dispatcher_rules.specs.declared.answers.SlotParking.{SlotParking}

-- every call but making, with any operands: the tag and the extractor's row; the place; row, slot and what is handed in or who parks. A
-- sending's row is the one that its message is stamped with (request No. 10)
pub data JobCall : Type 0 where
  open_for : Tag → ℕ → JobCall
  close : ℕ → JobCall
  send : ℕ → ℕ → Payload → JobCall
  receive : ℕ → ℕ → JobCall
  park : ℕ → ℕ → TaskId → JobCall

-- ---- each call on a desk
module _ (w : Desk) where
  abbrev pub opening : Tag → ℕ → JobOpening
  opening = open_job_call w.dispatcher w.rows w.channels

  abbrev pub closing : ℕ → JobClosing
  closing = close_job_call w.dispatcher w.rows w.channels

  abbrev pub sending : ℕ → ℕ → Payload → SlotSending
  sending = slot_send_call w.dispatcher w.rows w.channels

  abbrev pub receiving : ℕ → ℕ → SlotReceiving
  receiving = slot_recv_call w.dispatcher w.rows w.channels

  abbrev pub parking : ℕ → ℕ → TaskId → SlotParking
  parking = slot_park_call w.dispatcher w.rows w.channels

-- ---- the desk that it leaves
abbrev pub opened : JobOpening → Desk
opened o = record { dispatcher = o.dispatcher; rows = o.rows; channels = o.channels }

abbrev pub closed : JobClosing → Desk
closed o = record { dispatcher = o.dispatcher; rows = o.rows; channels = o.channels }

abbrev pub sent : SlotSending → Desk
sent o = record { dispatcher = o.dispatcher; rows = o.rows; channels = o.channels }

abbrev pub received : SlotReceiving → Desk
received o = record { dispatcher = o.dispatcher; rows = o.rows; channels = o.channels }

abbrev pub parked : SlotParking → Desk
parked o = record { dispatcher = o.dispatcher; rows = o.rows; channels = o.channels }

unfoldable pub after : Desk → JobCall → Desk
after w (open_for tag x) = opened (opening w tag x)
after w (close p) = closed (closing w p)
after w (send r s x) = sent (sending w r s x)
after w (receive r s) = received (receiving w r s)
after w (park r s task) = parked (parking w r s task)

unfoldable pub run : Desk → List JobCall → Desk
run w [] = w
run w (c ∷ cs) = run (after w c) cs

-- ---- fresh tables of any sizes in range, and one dispatcher that was made
abbrev pub start : Sizes → ℕ → List Variant → Desk
start z n vs = record { dispatcher = (make_of n vs).dispatcher; rows = fresh_table; channels = fresh_of z }

-- what holds of any sequence of dispatcher calls from there
abbrev pub FromFresh : (Desk → List JobCall → Type 0) → Type 0
FromFresh Holds = (z : Sizes) → in_range z ≡ true → (n : ℕ) (vs : List Variant) → (make_of n vs).answer ≡ Ok tt → (cs : List JobCall) → Holds (start z n vs) cs

-- what such a sequence reaches
pub data Reached : Desk → Type 0 where
  fresh : (z : Sizes) → in_range z ≡ true → (n : ℕ) (vs : List Variant) → (make_of n vs).answer ≡ Ok tt → Reached (start z n vs)
  then : {w : Desk} → Reached w → (c : JobCall) → Reached (after w c)
