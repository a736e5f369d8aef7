-- Demand 3: "A parked task is named by the first later accepted send on its channel, its revocation, or, if ephemeral, the release that
-- leaves no send hold, whichever comes first, unless a clearing of that task comes sooner. Nothing else ends the wait."
--
-- "A parked task": a park through an id, answered Parked, makes task x wait on channel n, the one that the id opens (`ParkedOn`, `Waits`).
-- "is named by": the answer of the call has x. A send and a revocation answer one waiter; a release answers four places, and x stands at
--     the place of its turn in the list, `turn_of` (`Names`).
-- "accepted send on its channel": `ends` at `send`. The id opens channel n for send, and the answer's number is 0, for accepted.
-- "its revocation": `ends` at `revoke`. The id opens channel n as a revocation asks, by either right.
-- "if ephemeral, the release that leaves no send hold": `ends` at `release`. The channel was created ephemeral (the mailbox's flag is what
--     the creation was called with, `KindStays`), and its holds, less those of the four slots that hold its send end, are 0. Holds are the
--     table's count of them, which stops at 4,294,967,295. A spawn's release is one too, whatever its register raises after it
--     (`spawn_calls` in Joined).
-- "a clearing of that task": `ends` at `clear`. The task that is cleared is x. Such a call answers how many it cleared (`Clears`).
-- "the first later", "whichever comes first", "sooner": no call before it is one of these (`Quiet`, `First`).
-- "Nothing else ends the wait": every other call is false in `ends`, and through every run of such calls x waits on. Every run is
--     of such calls alone, or has a first that ends the wait (`NamedFirst`, `Fate`, `ParkedNamed`).
use Rattle.std.specs.Prelude.{◌≡◌, Bool, true, false, ◌&&◌, List, [], ◌∷◌, ◌++◌, ◌⊎◌, ℕ, ◌+◌, ◌-◌, eqb, get_or, None, Ok}
use Rattle.laws.specs.Pick.{pick}
use Rattle.laws.specs.Refusals as no
use Rattle.cap.specs.Rights.{send_right, receive_right}
use Rattle.cap.specs.declared.CapId.{CapId}
use Rattle.cap.specs.declared.slot.Slot.{Slot}
use Rattle.ipc_rules.specs.State.{nobody, waiting}
use Rattle.ipc_rules.specs.Opening.{opening_of, hold_of, opened}
use Rattle.ipc_rules.specs.Answers.{send_number}
use Rattle.ipc_rules.specs.Send.{send_of}
use Rattle.ipc_rules.specs.Receive.{same_task}
use Rattle.ipc_rules.specs.Views.{waiter_of, hold_count, ephemeral_of, held_by, held_in}
use Rattle.ipc_rules.specs.declared.state.Channel.{Channel}
use Rattle.ipc_rules.specs.declared.state.Payload.{Payload}
use Rattle.ipc_rules.specs.declared.state.TaskId.{TaskId}
use Rattle.ipc_rules.specs.declared.state.Waiter.{Waiter}
use Rattle.ipc_rules.specs.declared.state.Table.{Table}
use Rattle.ipc_rules.specs.declared.opening.Opening.TheVariants.{Opens}
use Rattle.history.specs.Calls.{Call, create, send, receive, park, queued, revoke, register, release, holders, clear, note_authority, note_state, counts, sent, parked, revoked, released, four_slots, answer}
use Rattle.history.specs.World.{World, step, run, Reached}
use Rattle.history.specs.Channels.{LivesIn, on, on_any}
use Rattle.history.specs.Ids.{Makes}

-- ---- who waits
-- task x waits on channel n, which lives in mailbox k
pub record Waits (w : World) (n k : ℕ) (x : TaskId) : Type 0 where
  pub lives : LivesIn w n k
  pub waiter : waiter_of w.table k ≡ waiting x

-- ---- what ends the wait
-- whether a call ends the wait of x on channel n in mailbox k
unfoldable pub ends : World → ℕ → ℕ → TaskId → Call → Bool
ends w n k x (create b) = false
ends w n k x (send c p row) = on w n c send_right && eqb (send_number (send_of w.table c p row).answer) no.none
ends w n k x (receive c) = false
ends w n k x (park c y) = false
ends w n k x (queued c) = false
ends w n k x (revoke c) = on_any w n c
ends w n k x (register words) = false
ends w n k x (release s₁ s₂ s₃ s₄) = ephemeral_of w.table k && eqb (hold_count w.table k - held_in w.table k (four_slots s₁ s₂ s₃ s₄)) 0
ends w n k x (holders c) = false
ends w n k x (clear y) = same_task x y
ends w n k x note_authority = false
ends w n k x note_state = false
ends w n k x counts = false

-- ---- the place in a release's answer: "Waiters are answered in list order, from the first place"
-- slot s, released behind the slots xs, takes the last send hold of mailbox k
unfoldable pub takes_last : Table → List Slot → Slot → ℕ → Bool
takes_last t xs s k = eqb (held_by t k s) 1 && eqb (hold_count t k - held_in t k xs) 1

-- how many waits it ends, 1 or 0: that hold was the last of an ephemeral mailbox on which a task waits
unfoldable pub waits_ended : Table → List Slot → Slot → ℕ
waits_ended t xs s = opened (hold_of t s) 0 (λ k. pick (takes_last t xs s k && ephemeral_of t k && (waiter_of t k).present) 1 0)

-- the turn of who waits on mailbox k in a list behind xs: how many waits the slots before the one that takes k's last hold end
unfoldable pub turn_of : Table → ℕ → List Slot → List Slot → ℕ
turn_of t k xs [] = 0
turn_of t k xs (s ∷ ss) = pick (takes_last t xs s k) 0 (waits_ended t xs s + turn_of t k (s ∷ xs) ss)

-- ---- named, or cleared
-- the call, made on table t, answers task x, who waited on mailbox k: a send and a revocation answer one waiter, and a release four
pub data Names (t : Table) (k : ℕ) (x : TaskId) : Call → Type 0 where
  by_send : {c : CapId} {p : Payload} {row : ℕ} → answer t (send c p row) ≡ sent (Ok (waiting x)) → Names t k x (send c p row)
  by_revocation : {c : CapId} → answer t (revoke c) ≡ revoked (Ok (waiting x)) → Names t k x (revoke c)
  by_release :
      {s₁ s₂ s₃ s₄ : Slot} (ws : List Waiter) → answer t (release s₁ s₂ s₃ s₄) ≡ released (Ok tt) ws →
      get_or ws (turn_of t k [] (four_slots s₁ s₂ s₃ s₄)) nobody ≡ waiting x → Names t k x (release s₁ s₂ s₃ s₄)

-- the call is a clearing of x
pub data Clears (x : TaskId) : Call → Type 0 where
  clears : Clears x (clear x)

-- call c, made in world w, names x or clears it, and x waits on channel n no more
pub record Ended (w : World) (n k : ℕ) (x : TaskId) (c : Call) : Type 0 where
  pub named : Names w.table k x c ⊎ Clears x c
  pub over : (j : ℕ) → Waits (step w c) n j x → ⊥

-- ---- which comes first
-- no call of the run ends the wait
pub data Quiet : World → ℕ → ℕ → TaskId → List Call → Type 0 where
  none : {w : World} {n k : ℕ} {x : TaskId} → Quiet w n k x []
  more : {w : World} {n k : ℕ} {x : TaskId} {c : Call} {cs : List Call} → ends w n k x c ≡ false → Quiet (step w c) n k x cs → Quiet w n k x (c ∷ cs)

-- the first call of the run that does
pub record First (w : World) (n k : ℕ) (x : TaskId) (cs : List Call) : Type 0 where
  pub before : List Call
  pub call : Call
  pub behind : List Call
  pub split : cs ≡ before ++ (call ∷ behind)
  pub quiet : Quiet w n k x before
  pub ender : ends (run w before) n k x call ≡ true

-- ---- "if ephemeral"
-- wherever channel n still lives, the flag that a release looks at is the one that its creation was called with
abbrev pub KindStays : Type 0
KindStays =
    (w : World) → Reached w → (b : Bool) (n : ℕ) (ids : Channel) → Makes w b n ids →
    (later : List Call) → let v = run (step w (create b)) later in (k : ℕ) → LivesIn v n k → ephemeral_of v.table k ≡ b

-- ---- the theorems
-- through every quiet run the task waits on; the first call that ends the wait names it or is a clearing of it, and then it waits no more
abbrev pub NamedFirst : Type 0
NamedFirst =
    (w : World) → Reached w → (n k : ℕ) (x : TaskId) → Waits w n k x → (cs : List Call) → Quiet w n k x cs →
    Waits (run w cs) n k x × ((c : Call) → ends (run w cs) n k x c ≡ true → Ended (run w cs) n k x c)

-- what becomes of a wait in a run: none of its calls ends it and the task waits on, or the first that does names or clears it
pub data Fate (w : World) (n k : ℕ) (x : TaskId) (cs : List Call) : Type 0 where
  waits : Quiet w n k x cs → Waits (run w cs) n k x → Fate w n k x cs
  ended : (f : First w n k x cs) → Ended (run w f.before) n k x f.call → Fate w n k x cs

-- task x, parked through the id c, waits on the channel that the id opens for receive, with that fate in every later run
pub record ParkedOn (w : World) (c : CapId) (x : TaskId) : Type 0 where
  pub box : ℕ
  pub opens : opening_of w.table c receive_right ≡ Opens box
  pub waits : Waits (step w (park c x)) (w.tenant box) box x
  pub fate : (cs : List Call) → Fate (step w (park c x)) (w.tenant box) box x cs

-- the demand's sentences, from the park on
abbrev pub ParkedNamed : Type 0
ParkedNamed = (w : World) → Reached w → (c : CapId) (x : TaskId) → answer w.table (park c x) ≡ parked (Ok None) → ParkedOn w c x
