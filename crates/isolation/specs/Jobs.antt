-- Jobs in a run: the one that is open in a place, from its opening on; what is accepted for it and what is handed out from it, by call and by
-- run.
use Rattle.std.specs.Prelude.{◌≡◌, Bool, true, false, List, [], ◌∷◌, ◌++◌, ℕ, ◌<◌, eqb, Err, Ok, Option, Result}
use Rattle.laws.specs.Pick.{pick}
use Rattle.cap.specs.Slot.{holding}
use Rattle.cap.specs.declared.CapId.{CapId}
use Rattle.capslots.specs.Table.{slot_in}
use Rattle.capslots.specs.Rows.{names_id}
use Rattle.ipc_rules.specs.State.{stamped}
use Rattle.ipc_rules.specs.declared.state.Message.{Message}
use Rattle.history.specs.Traffic.{if_sent, by_receive, by_park}
use Rattle.dispatcher_rules.specs.State.{job_at, variant_in, row_of, open_job}
use Rattle.dispatcher_rules.specs.Bound.{same_tag}
use Rattle.dispatcher_rules.specs.declared.state.Desk.{Desk}
use Rattle.dispatcher_rules.specs.declared.state.Dispatcher.{Dispatcher}
use Rattle.dispatcher_rules.specs.declared.state.Job.{Job}
use Rattle.dispatcher_rules.specs.declared.state.Tag.{Tag}
use Rattle.dispatcher_rules.specs.declared.answers.BySlotError.TheVariants as by_slot_error
use Rattle.isolation.specs.Runs.{JobCall, open_for, close, send, receive, park, opening, sending, receiving, parking, after, run}
use Rattle.ipc_rules.specs.declared.state.Waiter.{Waiter}
use Rattle.ipc_rules.specs.declared.answers.SendError.{SendError}
use Rattle.dispatcher_rules.specs.declared.answers.BySlotError.{BySlotError}
use Rattle.ipc_rules.specs.declared.answers.RecvError.{RecvError}
use Rattle.ipc_rules.specs.declared.answers.ParkError.{ParkError}

-- ---- places and rows
abbrev pub job_in : Desk → ℕ → Job
job_in w p = job_at w.dispatcher p

-- a job is open in place p
abbrev pub OpenIn : Desk → ℕ → Type 0
OpenIn w p = (job_in w p).«open» ≡ true

-- the tag is bound to row r
pub record BoundTo (d : Dispatcher) (tag : Tag) (r : ℕ) : Type 0 where
  pub variant : ℕ
  pub among : variant < d.count
  pub tagged : same_tag (variant_in d.variants variant).tag tag ≡ true
  pub row : row_of d variant ≡ r

-- slot s of row r holds the id
abbrev pub slot_holds : Desk → ℕ → ℕ → CapId → Bool
slot_holds w r s c = names_id c (slot_in w.rows r s)

-- ---- by answer
-- m, where its sending was accepted
unfoldable pub if_accepted : Result (Result Waiter SendError) BySlotError → Message → List Message
if_accepted (Ok a) m = if_sent a m
if_accepted (Err (by_slot_error.OutOfRange s n)) m = []
if_accepted (Err (by_slot_error.Vacant s)) m = []
if_accepted (Err by_slot_error.BadTable) m = []

-- what a receiving hands out
unfoldable pub if_received : Result (Result Message RecvError) BySlotError → List Message
if_received (Ok a) = by_receive a
if_received (Err (by_slot_error.OutOfRange s n)) = []
if_received (Err (by_slot_error.Vacant s)) = []
if_received (Err by_slot_error.BadTable) = []

-- what a parking hands out
unfoldable pub if_given : Result (Result (Option Message) ParkError) BySlotError → List Message
if_given (Ok a) = by_park a
if_given (Err (by_slot_error.OutOfRange s n)) = []
if_given (Err (by_slot_error.Vacant s)) = []
if_given (Err by_slot_error.BadTable) = []

-- ---- by call, for the job in place p
-- the messages, one or none, that the call has accepted for it: it sends by a slot that holds the job's send id, and what was handed in is
-- stamped with the row that it names
unfoldable pub accepted : Desk → ℕ → JobCall → List Message
accepted w p (open_for tag x) = []
accepted w p (close q) = []
accepted w p (send r s x) = pick (slot_holds w r s (job_in w p).ends.send) (if_accepted (sending w r s x).answer (stamped x r)) []
accepted w p (receive r s) = []
accepted w p (park r s task) = []

-- the messages, one or none, that the call hands out to row r, whatever job they are of
unfoldable pub handed_to : Desk → ℕ → JobCall → List Message
handed_to w r (open_for tag x) = []
handed_to w r (close q) = []
handed_to w r (send r' s x) = []
handed_to w r (receive r' s) = pick (eqb r' r) (if_received (receiving w r' s).answer) []
handed_to w r (park r' s task) = pick (eqb r' r) (if_given (parking w r' s task).answer) []

-- the messages, one or none, that the call hands out from the job in place p: it receives or parks by a slot that holds the job's receive id
unfoldable pub handed : Desk → ℕ → JobCall → List Message
handed w p (open_for tag x) = []
handed w p (close q) = []
handed w p (send r s x) = []
handed w p (receive r s) = pick (slot_holds w r s (job_in w p).ends.recv) (if_received (receiving w r s).answer) []
handed w p (park r s task) = pick (slot_holds w r s (job_in w p).ends.recv) (if_given (parking w r s task).answer) []

-- the call closes place p
unfoldable pub closes : ℕ → JobCall → Bool
closes p (open_for tag x) = false
closes p (close q) = eqb q p
closes p (send r s x) = false
closes p (receive r s) = false
closes p (park r s task) = false

-- ---- by run
-- what the calls have accepted for the job in place p, in their order
unfoldable pub all_accepted : Desk → ℕ → List JobCall → List Message
all_accepted w p [] = []
all_accepted w p (c ∷ cs) = accepted w p c ++ all_accepted (after w c) p cs

-- what the calls hand out from it, in their order
unfoldable pub all_handed : Desk → ℕ → List JobCall → List Message
all_handed w p [] = []
all_handed w p (c ∷ cs) = handed w p c ++ all_handed (after w c) p cs

-- no call closes place p
pub data Spares (p : ℕ) : List JobCall → Type 0 where
  none : Spares p []
  more : {c : JobCall} {cs : List JobCall} → closes p c ≡ false → Spares p cs → Spares p (c ∷ cs)

-- ---- a job of a run: in the calls cs from desk w there is its opening, which took place p, and none after it that closes the place
pub record JobOf (w : Desk) (cs : List JobCall) (p : ℕ) : Type 0 where
  pub earlier : List JobCall
  pub tag : Tag
  pub extractor : ℕ
  pub later : List JobCall
  pub split : cs ≡ earlier ++ (open_for tag extractor ∷ later)
  pub send : CapId
  pub recv : CapId
  pub opened : (opening (run w earlier) tag extractor).answer ≡ Ok (record { place = p; send = send; recv = recv })
  pub unclosed : Spares p later
  -- so it stands there still, and its send id in a slot of the extractor's row
  pub stands : job_in (run w cs) p ≡ open_job (record { send = send; recv = recv }) tag
  pub slot : ℕ
  pub sender : slot_in (run w cs).rows extractor slot ≡ holding send

-- the desk as its opening left it
abbrev pub since : {w : Desk} {cs : List JobCall} {p : ℕ} → JobOf w cs p → Desk
since {w = w} j = after (run w j.earlier) (open_for j.tag j.extractor)
