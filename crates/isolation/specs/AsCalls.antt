-- Request No. 5 adds no second rule for creating, giving, revoking, sending, receiving and parking. What dispatcher calls do to the channel
-- table, calls on it do; and what demand 3 says of every sequence of calls, on order, once and waits, it says of dispatcher calls.
use Rattle.std.specs.Prelude.{◌≡◌, true, List, [], ◌∷◌, ◌++◌, ℕ, Err, Ok, Option, Result}
use Rattle.cap.specs.Rights.{send_right}
use Rattle.cap.specs.declared.CapId.{CapId}
use Rattle.capslots.specs.Rows.{get_of}
use Rattle.capslots.specs.declared.Table.{Table as Rows}
use Rattle.ipc_rules.specs.Make.{in_range}
use Rattle.ipc_rules.specs.Opening as openings
use Rattle.ipc_rules.specs.declared.state.Payload.{Payload}
use Rattle.ipc_rules.specs.declared.state.Sizes.{Sizes}
use Rattle.ipc_rules.specs.declared.state.TaskId.{TaskId}
use Rattle.ipc_rules.specs.declared.state.Waiter.{Waiter}
use Rattle.ipc_rules.specs.declared.state.Table.{Table as Channels}
use Rattle.history.specs.Calls as calls
use Rattle.history.specs.Joined.{registering}
use Rattle.history.specs.World as world
use Rattle.dispatcher_rules.specs.Make.{make_of}
use Rattle.dispatcher_rules.specs.Slots.{slotted}
use Rattle.dispatcher_rules.specs.declared.state.Desk.{Desk}
use Rattle.dispatcher_rules.specs.declared.state.Tag.{Tag}
use Rattle.dispatcher_rules.specs.declared.state.Variant.{Variant}
use Rattle.dispatcher_rules.specs.declared.answers.OpenedJob.{OpenedJob}
use Rattle.dispatcher_rules.specs.declared.answers.OpenError.TheVariants as toOpen
use Rattle.dispatcher_rules.specs.declared.answers.CloseError.TheVariants as toClose
use Rattle.isolation.specs.Runs.{JobCall, open_for, close, send, receive, park, opening, closing, sending, receiving, parking, after, run, start, Reached}
use Rattle.isolation.specs.Jobs.{job_in}
use Rattle.ipc_rules.specs.declared.answers.SendError.{SendError}
use Rattle.ipc_rules.specs.declared.state.Message.{Message}
use Rattle.ipc_rules.specs.declared.answers.RecvError.{RecvError}
use Rattle.ipc_rules.specs.declared.answers.ParkError.{ParkError}
use Rattle.dispatcher_rules.specs.declared.answers.OpenError.{OpenError}
use Rattle.dispatcher_rules.specs.declared.answers.CloseError.{CloseError}

-- ---- the calls on the channel table that a dispatcher call makes
-- an opening that succeeds creates an ephemeral channel, and each give registers its id: the send id for a hold, the receive id for none
unfoldable pub open_calls : Result OpenedJob OpenError → List calls.Call
open_calls (Ok j) = calls.create true ∷ registering j.send ∷ registering j.recv ∷ []
open_calls (Err toOpen.NoVariant) = []
open_calls (Err toOpen.BadRow) = []
open_calls (Err toOpen.JobsFull) = []
open_calls (Err toOpen.NoMailbox) = []
open_calls (Err toOpen.NoEndpoint) = []
open_calls (Err toOpen.BadSlot) = []
open_calls (Err toOpen.BadTable) = []

-- a closing revokes where the send id opens
unfoldable pub close_calls : Channels → CapId → Result Waiter CloseError → List calls.Call
close_calls t c (Ok x) = openings.opened (openings.opening_of t c send_right) [] (λ _. calls.revoke c ∷ [])
close_calls t c (Err toClose.NoJob) = []
close_calls t c (Err toClose.BadTable) = []

-- by row and slot, one call by the id that stands there; the send that a sending makes names that row
unfoldable pub slot_calls : Rows → ℕ → ℕ → (CapId → calls.Call) → List calls.Call
slot_calls rows r s call = slotted (get_of rows r s) (λ _ _. []) (λ _. []) (λ c. call c ∷ [])

unfoldable pub calls_of : Desk → JobCall → List calls.Call
calls_of w (open_for tag x) = open_calls (opening w tag x).answer
calls_of w (close p) = close_calls w.channels (job_in w p).ends.send (closing w p).answer
calls_of w (send r s x) = slot_calls w.rows r s (λ c. calls.send c x r)
calls_of w (receive r s) = slot_calls w.rows r s (λ c. calls.receive c)
calls_of w (park r s task) = slot_calls w.rows r s (λ c. calls.park c task)

unfoldable pub all_calls : Desk → List JobCall → List calls.Call
all_calls w [] = []
all_calls w (c ∷ cs) = calls_of w c ++ all_calls (after w c) cs

-- ---- the channel table after any dispatcher calls is the one after these calls, from the same fresh table
abbrev pub JobsRun : Type 0
JobsRun =
    (z : Sizes) → in_range z ≡ true → (n : ℕ) (vs : List Variant) → (make_of n vs).answer ≡ Ok tt → (cs : List JobCall) →
    (world.run (world.start z) (all_calls (start z n vs) cs)).table ≡ (run (start z n vs) cs).channels

-- ---- and what a dispatcher call answers of the channels is what its call answers
-- the id that stands in slot s of row r, and the answer of the call by it
pub record ById (w : Desk) (r s : ℕ) (call : CapId → calls.Call) (a : calls.Answer) : Type 0 where
  pub id : CapId
  pub stands : get_of w.rows r s ≡ Ok id
  pub answers : calls.answer w.channels (call id) ≡ a

pub record Tells (w : Desk) : Type 0 where
  pub opens : (tag : Tag) (x : ℕ) (j : OpenedJob) → (opening w tag x).answer ≡ Ok j →
      calls.answer w.channels (calls.create true) ≡ calls.created (Ok (record { send = j.send; recv = j.recv }))
  pub closes : (p : ℕ) (x : Waiter) → (closing w p).answer ≡ Ok x →
      calls.answer w.channels (calls.revoke (job_in w p).ends.send) ≡ calls.revoked (Ok x)
  pub sends : (r s : ℕ) (x : Payload) (a : Result Waiter SendError) → (sending w r s x).answer ≡ Ok a → ById w r s (λ c. calls.send c x r) (calls.sent a)
  pub receives : (r s : ℕ) (a : Result Message RecvError) → (receiving w r s).answer ≡ Ok a → ById w r s (λ c. calls.receive c) (calls.received a)
  pub parks : (r s : ℕ) (task : TaskId) (a : Result (Option Message) ParkError) → (parking w r s task).answer ≡ Ok a → ById w r s (λ c. calls.park c task) (calls.parked a)

abbrev pub JobsTell : Type 0
JobsTell = (w : Desk) → Reached w → Tells w
