-- Every call on a channel table, with its operands; what it answers and what table it leaves, by the rules of `ipc`.
use Rattle.std.specs.Prelude.{Bool, List, [], ◌∷◌, ℕ, get_or, Option, Result, ⊤}
use Rattle.cap.specs.Slot.{vacant_slot}
use Rattle.cap.specs.declared.CapId.{CapId}
use Rattle.cap.specs.declared.slot.Slot.{Slot}
use Rattle.ipc_rules.specs.Counts.{note_authority_of, note_state_of}
use Rattle.ipc_rules.specs.Create.{create_of}
use Rattle.ipc_rules.specs.Send.{send_of}
use Rattle.ipc_rules.specs.Receive.{recv_of, park_of}
use Rattle.ipc_rules.specs.Observe.{queued_of, holders_of, refusals_of}
use Rattle.ipc_rules.specs.Holds.{register_of, release_of}
use Rattle.ipc_rules.specs.Revoke.{revoke_of}
use Rattle.ipc_rules.specs.Waiters.{clear_of}
use Rattle.ipc_rules.specs.declared.state.Payload.{Payload}
use Rattle.ipc_rules.specs.declared.state.TaskId.{TaskId}
use Rattle.ipc_rules.specs.declared.state.Waiter.{Waiter}
use Rattle.ipc_rules.specs.declared.state.Table.{Table}
use Rattle.ipc_rules.specs.declared.state.Channel.{Channel}
use Rattle.ipc_rules.specs.declared.answers.CreateError.{CreateError}
use Rattle.ipc_rules.specs.declared.answers.SendError.{SendError}
use Rattle.ipc_rules.specs.declared.state.Message.{Message}
use Rattle.ipc_rules.specs.declared.answers.RecvError.{RecvError}
use Rattle.ipc_rules.specs.declared.answers.ParkError.{ParkError}
use Rattle.ipc_rules.specs.declared.answers.CapError.{CapError}
use Rattle.ipc_rules.specs.declared.answers.RegisterError.{RegisterError}
use Rattle.ipc_rules.specs.declared.answers.TableError.{TableError}
use Rattle.ipc_rules.specs.declared.state.Refusals.{Refusals}

-- a send has what the sender hands in, and the sending row, which the kernel names (request No. 10); a register has a list as words, any
-- length; a release has exactly four places
pub data Call : Type 0 where
  create : Bool → Call
  send : CapId → Payload → ℕ → Call
  receive : CapId → Call
  park : CapId → TaskId → Call
  queued : CapId → Call
  revoke : CapId → Call
  register : List ℕ → Call
  release : Slot → Slot → Slot → Slot → Call
  holders : CapId → Call
  clear : TaskId → Call
  note_authority : Call
  note_state : Call
  counts : Call

-- the answer of each, in the order of the calls; a release's four waiters stand beside its answer, and both note calls have one kind
pub data Answer : Type 0 where
  created : Result Channel CreateError → Answer
  sent : Result Waiter SendError → Answer
  received : Result Message RecvError → Answer
  parked : Result (Option Message) ParkError → Answer
  measured : Result ℕ CapError → Answer
  revoked : Result Waiter CapError → Answer
  registered : Result ⊤ RegisterError → Answer
  released : Result ⊤ TableError → List Waiter → Answer
  held : Result ℕ CapError → Answer
  cleared : Result ℕ TableError → Answer
  noted : Result ⊤ TableError → Answer
  counted : Result Refusals TableError → Answer

-- the four places of a release
abbrev pub four_slots : Slot → Slot → Slot → Slot → List Slot
four_slots x y z v = x ∷ y ∷ z ∷ v ∷ []

-- the release of the first four slots of a list, vacant past its end
abbrev pub releasing : List Slot → Call
releasing ss = release (get_or ss 0 vacant_slot) (get_or ss 1 vacant_slot) (get_or ss 2 vacant_slot) (get_or ss 3 vacant_slot)

unfoldable pub answer : Table → Call → Answer
answer t (create ephemeral) = created (create_of t ephemeral).answer
answer t (send c p row) = sent (send_of t c p row).answer
answer t (receive c) = received (recv_of t c).answer
answer t (park c task) = parked (park_of t c task).answer
answer t (queued c) = measured (queued_of t c)
answer t (revoke c) = revoked (revoke_of t c).answer
answer t (register words) = registered (register_of t words).answer
answer t (release x y z v) = released (release_of t (four_slots x y z v)).answer (release_of t (four_slots x y z v)).waiters
answer t (holders c) = held (holders_of t c)
answer t (clear task) = cleared (clear_of t task).answer
answer t note_authority = noted (note_authority_of t).answer
answer t note_state = noted (note_state_of t).answer
answer t counts = counted (refusals_of t)

-- `queued`, holders and counts only look
unfoldable pub after : Table → Call → Table
after t (create ephemeral) = (create_of t ephemeral).table
after t (send c p row) = (send_of t c p row).table
after t (receive c) = (recv_of t c).table
after t (park c task) = (park_of t c task).table
after t (queued c) = t
after t (revoke c) = (revoke_of t c).table
after t (register words) = (register_of t words).table
after t (release x y z v) = (release_of t (four_slots x y z v)).table
after t (holders c) = t
after t (clear task) = (clear_of t task).table
after t note_authority = (note_authority_of t).table
after t note_state = (note_state_of t).table
after t counts = t
