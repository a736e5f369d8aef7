-- Demand 3, "A parked task is named by the first later accepted send on its channel, its revocation, .. Nothing else ends the wait", read of
-- dispatcher calls: what ends a wait for a job is a sending that is accepted for it, or the closing of its place.
use Rattle.std.specs.Prelude.{◌≡◌, true, false, List, [], ◌∷◌, ◌⊎◌, ℕ, None, Ok}
use Rattle.cap.specs.Rights.{send_right}
use Rattle.ipc_rules.specs.State.{nobody, waiting}
use Rattle.ipc_rules.specs.Opening.{opening_of}
use Rattle.ipc_rules.specs.Views.{waiter_of}
use Rattle.ipc_rules.specs.declared.opening.Opening.TheVariants.{Opens}
use Rattle.ipc_rules.specs.declared.state.Message.{Message}
use Rattle.ipc_rules.specs.declared.state.Payload.{Payload}
use Rattle.ipc_rules.specs.declared.state.TaskId.{TaskId}
use Rattle.dispatcher_rules.specs.declared.state.Desk.{Desk}
use Rattle.isolation.specs.Runs.{JobCall, close, send, park, closing, sending, parking, after, run, Reached}
use Rattle.isolation.specs.Jobs.{job_in, OpenIn, BoundTo, accepted, closes}

-- task x waits for the job in place p, whose mailbox is k
pub record Waits (w : Desk) (p k : ℕ) (x : TaskId) : Type 0 where
  pub job_open : OpenIn w p
  pub opens : opening_of w.channels (job_in w p).ends.send send_right ≡ Opens k
  pub waiter : waiter_of w.channels k ≡ waiting x

-- the call answers x
pub data Named (w : Desk) (x : TaskId) : JobCall → Type 0 where
  by_sending : {r s : ℕ} {y : Payload} → (sending w r s y).answer ≡ Ok (Ok (waiting x)) → Named w x (send r s y)
  by_closing : {p : ℕ} → (closing w p).answer ≡ Ok (waiting x) → Named w x (close p)

-- through every other call it waits on
abbrev pub WaitsOn : Type 0
WaitsOn =
    (w : Desk) → Reached w → (p k : ℕ) (x : TaskId) → Waits w p k x →
    (c : JobCall) → closes p c ≡ false → accepted w p c ≡ [] → Waits (after w c) p k x

-- a call that closes the place, or by which a message is accepted for the job, names it, and then nobody waits there
abbrev pub WaitEnds : Type 0
WaitEnds =
    (w : Desk) → Reached w → (p k : ℕ) (x : TaskId) → Waits w p k x →
    (c : JobCall) → (closes p c ≡ true) ⊎ ((m : Message) × (accepted w p c ≡ m ∷ [])) → Named w x c × (waiter_of (after w c).channels k ≡ nobody)

-- who parks by row r and a slot waits then for a job whose tag is bound to that row
pub record WaitsFor (w : Desk) (r s : ℕ) (x : TaskId) : Type 0 where
  pub place : ℕ
  pub box : ℕ
  pub bound : BoundTo w.dispatcher (job_in w place).tag r
  pub waits : Waits (after w (park r s x)) place box x

abbrev pub ParkedWaits : Type 0
ParkedWaits = (w : Desk) → Reached w → (r s : ℕ) (x : TaskId) → (parking w r s x).answer ≡ Ok (Ok None) → WaitsFor w r s x

-- over a run: as long as no call closes the place and none has a message accepted for the job, it waits; so the first that does names it
pub data Quiet : Desk → ℕ → List JobCall → Type 0 where
  none : {w : Desk} {p : ℕ} → Quiet w p []
  more : {w : Desk} {p : ℕ} {c : JobCall} {cs : List JobCall} → closes p c ≡ false → accepted w p c ≡ [] → Quiet (after w c) p cs → Quiet w p (c ∷ cs)

abbrev pub WaitsThrough : Type 0
WaitsThrough = (w : Desk) → Reached w → (p k : ℕ) (x : TaskId) → Waits w p k x → (cs : List JobCall) → Quiet w p cs → Reached (run w cs) × Waits (run w cs) p k x
