-- What goes into a channel and what comes out of it, by answer, by call and by run.
use Rattle.std.specs.Prelude.{◌≡◌, Bool, false, List, [], ◌∷◌, ◌++◌, ℕ, Err, None, Ok, Option, Result, Some}
use Rattle.laws.specs.Pick.{pick}
use Rattle.cap.specs.Rights.{send_right, receive_right}
use Rattle.ipc_rules.specs.State.{stamped}
use Rattle.ipc_rules.specs.Send.{send_of}
use Rattle.ipc_rules.specs.Receive.{recv_of, park_of}
use Rattle.ipc_rules.specs.declared.state.Message.{Message}
use Rattle.ipc_rules.specs.declared.answers.SendError.TheVariants as send
use Rattle.ipc_rules.specs.declared.answers.RecvError.TheVariants as recv
use Rattle.ipc_rules.specs.declared.answers.ParkError.TheVariants as park
use Rattle.history.specs.Calls.{Call, create, send, receive, park, queued, revoke, register, release, holders, clear, note_authority, note_state, counts}
use Rattle.history.specs.World.{World, step}
use Rattle.history.specs.Channels.{on, on_any}
use Rattle.ipc_rules.specs.declared.state.Waiter.{Waiter}
use Rattle.ipc_rules.specs.declared.answers.SendError.{SendError}
use Rattle.ipc_rules.specs.declared.answers.RecvError.{RecvError}
use Rattle.ipc_rules.specs.declared.answers.ParkError.{ParkError}

-- ---- by answer
-- m, where its send was accepted
unfoldable pub if_sent : Result Waiter SendError → Message → List Message
if_sent (Ok w) m = m ∷ []
if_sent (Err send.BadRow) m = []
if_sent (Err send.BadCap) m = []
if_sent (Err send.Full) m = []
if_sent (Err send.BadTable) m = []

-- what a try to receive has given
unfoldable pub by_receive : Result Message RecvError → List Message
by_receive (Ok m) = m ∷ []
by_receive (Err recv.BadCap) = []
by_receive (Err recv.Empty) = []
by_receive (Err recv.BadTable) = []

-- what a park has given
unfoldable pub by_park : Result (Option Message) ParkError → List Message
by_park (Ok (Some m)) = m ∷ []
by_park (Ok None) = []
by_park (Err park.BadCap) = []
by_park (Err park.Busy) = []
by_park (Err park.Cancelled) = []
by_park (Err park.BadTable) = []

-- ---- by call
-- the messages, one or none, that a call puts into channel n: of an accepted send, what was handed in, stamped with the row that the call names
unfoldable pub accepted : World → ℕ → Call → List Message
accepted w n (create ephemeral) = []
accepted w n (send c p row) = pick (on w n c send_right) (if_sent (send_of w.table c p row).answer (stamped p row)) []
accepted w n (receive c) = []
accepted w n (park c task) = []
accepted w n (queued c) = []
accepted w n (revoke c) = []
accepted w n (register words) = []
accepted w n (release x y z v) = []
accepted w n (holders c) = []
accepted w n (clear task) = []
accepted w n note_authority = []
accepted w n note_state = []
accepted w n counts = []

-- the messages, one or none, that a call gives from channel n
unfoldable pub given : World → ℕ → Call → List Message
given w n (create ephemeral) = []
given w n (send c p row) = []
given w n (receive c) = pick (on w n c receive_right) (by_receive (recv_of w.table c).answer) []
given w n (park c task) = pick (on w n c receive_right) (by_park (park_of w.table c task).answer) []
given w n (queued c) = []
given w n (revoke c) = []
given w n (register words) = []
given w n (release x y z v) = []
given w n (holders c) = []
given w n (clear task) = []
given w n note_authority = []
given w n note_state = []
given w n counts = []

-- whether a call revokes channel n
unfoldable pub revokes : World → ℕ → Call → Bool
revokes w n (create ephemeral) = false
revokes w n (send c p row) = false
revokes w n (receive c) = false
revokes w n (park c task) = false
revokes w n (queued c) = false
revokes w n (revoke c) = on_any w n c
revokes w n (register words) = false
revokes w n (release x y z v) = false
revokes w n (holders c) = false
revokes w n (clear task) = false
revokes w n note_authority = false
revokes w n note_state = false
revokes w n counts = false

-- ---- by run
-- what the calls put into channel n, in their order
unfoldable pub all_accepted : World → ℕ → List Call → List Message
all_accepted w n [] = []
all_accepted w n (c ∷ cs) = accepted w n c ++ all_accepted (step w c) n cs

-- what the calls give from channel n, in their order
unfoldable pub all_given : World → ℕ → List Call → List Message
all_given w n [] = []
all_given w n (c ∷ cs) = given w n c ++ all_given (step w c) n cs

-- no call of the run revokes channel n
pub data Spares : World → ℕ → List Call → Type 0 where
  none : {w : World} {n : ℕ} → Spares w n []
  more : {w : World} {n : ℕ} {c : Call} {cs : List Call} → revokes w n c ≡ false → Spares (step w c) n cs → Spares w n (c ∷ cs)
