-- Request No. 6, "Say why an id didn't open": what the supervisor is told, and what each reason says of the table.
use Rattle.std.specs.Prelude.{◌≡◌, Bool, true, false, ◌||◌, List, [], ◌∷◌, ℕ, ◌≤◌, ◌<◌, Result, Ok, Err, ⊤}
use Rattle.laws.specs.Refusals as no
use Rattle.shown.specs.Shown.{of_either}
use Rattle.cap.specs.Id.{index_of, generation_of}
use Rattle.cap.specs.Slot.{holding}
use Rattle.cap.specs.Rights.{contains_all, send_right, receive_right}
use Rattle.cap.specs.declared.CapId.{CapId}
use Rattle.cap.specs.declared.CapRights.{CapRights}
use Rattle.ipc_rules.specs.State.{endpoint_at, endpoint_live}
use Rattle.ipc_rules.specs.Sound.{Sound}
use Rattle.ipc_rules.specs.Opening.{attempt_of, in_reach, opening_of, either_of, any_right_of, hold_of}
use Rattle.ipc_rules.specs.Send.{send_of}
use Rattle.ipc_rules.specs.Receive.{recv_of, park_of}
use Rattle.ipc_rules.specs.Observe.{queued_of, holders_of}
use Rattle.ipc_rules.specs.Revoke.{revoke_of}
use Rattle.ipc_rules.specs.declared.state.Payload.{Payload}
use Rattle.ipc_rules.specs.declared.state.TaskId.{TaskId}
use Rattle.ipc_rules.specs.declared.state.Table.{Table}
use Rattle.ipc_rules.specs.declared.opening.Reason.{Reason}
use Rattle.ipc_rules.specs.declared.opening.Reason.TheVariants.{PastEnd, Dead, OtherGeneration, NoRight}
use Rattle.ipc_rules.specs.declared.opening.Asked.{Asked}
use Rattle.ipc_rules.specs.declared.opening.Asked.TheVariants.{Send, Receive, Either, Revocation}
use Rattle.ipc_rules.specs.declared.opening.Opening as openings
use Rattle.ipc_rules.specs.declared.answers.SendError.TheVariants as sends
use Rattle.ipc_rules.specs.declared.answers.RecvError.TheVariants as receives
use Rattle.ipc_rules.specs.declared.answers.ParkError.TheVariants as parks
use Rattle.ipc_rules.specs.declared.answers.CapError.TheVariants as cap_error
use Rattle.ipc_rules.specs.declared.answers.WhyError.TheVariants.{Shut, BadTable}
use Rattle.ipc_rules.specs.declared.answers.WhyError.{WhyError}

-- "the reason, 1 to 4"
abbrev pub reason_number : Reason → ℕ
reason_number PastEnd = 1
reason_number Dead = 2
reason_number OtherGeneration = 3
reason_number NoRight = 4

-- whether rights have what is asked for: send, receive, one of the two, or nothing
unfoldable pub right_for : Asked → CapRights → Bool
right_for Send w = contains_all w send_right
right_for Receive w = contains_all w receive_right
right_for Either w = contains_all w send_right || contains_all w receive_right
right_for Revocation w = true

-- an id tried on a table
unfoldable pub tried_of : Table → CapId → Asked → Result ℕ Reason
tried_of t c asked = attempt_of (in_reach t (index_of c)) (endpoint_at t (index_of c)) c (right_for asked (endpoint_at t (index_of c)).rights)

-- ---- the supervisor's call
unfoldable pub why_answer : Result ℕ Reason → Result ⊤ WhyError
why_answer (Ok k) = Ok tt
why_answer (Err r) = Err (Shut r)

unfoldable pub why_of : Table → CapId → Asked → Result ⊤ WhyError
why_of t c asked = why_answer (tried_of t c asked)

-- an id that opens nothing has the number of BadCap, and shows its reason
abbrev pub why_error_number : WhyError → ℕ
why_error_number (Shut r) = no.bad_cap
why_error_number BadTable = no.bad_table

abbrev pub why_error_values : WhyError → List ℕ
why_error_values (Shut r) = reason_number r ∷ []
why_error_values BadTable = []

abbrev pub why_number : Result ⊤ WhyError → ℕ
why_number = of_either (λ _. no.none) why_error_number

abbrev pub why_values : Result ⊤ WhyError → List ℕ
why_values = of_either (λ _. []) why_error_values

-- ---- what each reason says of the table
-- "index past e, dead, another generation, or right missing, tested in that order": each with the tests before it passed
unfoldable pub Because : Table → CapId → Asked → Reason → Type 0
Because t c asked PastEnd = t.sizes.endpoints ≤ index_of c
Because t c asked Dead = (index_of c < t.sizes.endpoints) × (endpoint_live t (index_of c) ≡ false)
Because t c asked OtherGeneration =
    (index_of c < t.sizes.endpoints) × (endpoint_live t (index_of c) ≡ true) × ((endpoint_at t (index_of c)).generation ≡ generation_of c → ⊥)
Because t c asked NoRight =
    (index_of c < t.sizes.endpoints) × (endpoint_live t (index_of c) ≡ true) × ((endpoint_at t (index_of c)).generation ≡ generation_of c)
    × (right_for asked (endpoint_at t (index_of c)).rights ≡ false)

-- the reason that is answered is so, and one that is so is answered
pub record ReasonTold (t : Table) (c : CapId) (asked : Asked) (r : Reason) : Type 0 where
  pub so : why_of t c asked ≡ Err (Shut r) → Because t c asked r
  pub answered : Because t c asked r → why_of t c asked ≡ Err (Shut r)

abbrev pub ReasonsTold : Type 0
ReasonsTold = (t : Table) (c : CapId) (asked : Asked) (r : Reason) → ReasonTold t c asked r

-- so no two are
abbrev pub OneReason : Type 0
OneReason = (t : Table) (c : CapId) (asked : Asked) (r q : Reason) → Because t c asked r → Because t c asked q → r ≡ q

-- ---- the reason is there exactly where the opening is shut, and where a call answers BadCap
pub record Explained (a : Result ⊤ WhyError) : Type 0 where
  pub reason : Reason
  pub is : a ≡ Err (Shut reason)

pub record Explains (a : Result ⊤ WhyError) (Bad : Type 0) : Type 0 where
  pub explained : Bad → Explained a
  pub only : (r : Reason) → a ≡ Err (Shut r) → Bad

-- for each opening: by send, by receive, by either, for a revocation, and as the hold of a present slot
pub record ShutsExplained (t : Table) (c : CapId) : Type 0 where
  pub send : Explains (why_of t c Send) (opening_of t c send_right ≡ openings.TheVariants.Shut)
  pub receive : Explains (why_of t c Receive) (opening_of t c receive_right ≡ openings.TheVariants.Shut)
  pub either : Explains (why_of t c Either) (either_of t c ≡ openings.TheVariants.Shut)
  pub revoke : Explains (why_of t c Revocation) (any_right_of t c ≡ openings.TheVariants.Shut)
  pub hold : Explains (why_of t c Send) (hold_of t (holding c) ≡ openings.TheVariants.Shut)

abbrev pub ShutsTie : Type 0
ShutsTie = (t : Table) (c : CapId) → ShutsExplained t c

-- for each call that opens an id; a send by a row that is there, since a bad row is refused before
pub record BadCapsExplained (t : Table) (c : CapId) : Type 0 where
  pub send : (p : Payload) (row : ℕ) → row < 54 → Explains (why_of t c Send) ((send_of t c p row).answer ≡ Err sends.BadCap)
  pub receive : Explains (why_of t c Receive) ((recv_of t c).answer ≡ Err receives.BadCap)
  pub park : (task : TaskId) → Explains (why_of t c Receive) ((park_of t c task).answer ≡ Err parks.BadCap)
  pub queued : Explains (why_of t c Either) (queued_of t c ≡ Err cap_error.BadCap)
  pub holders : Explains (why_of t c Send) (holders_of t c ≡ Err cap_error.BadCap)
  pub revoke : Explains (why_of t c Revocation) ((revoke_of t c).answer ≡ Err cap_error.BadCap)

abbrev pub ReasonsTie : Type 0
ReasonsTie = (t : Table) (c : CapId) → BadCapsExplained t c

-- "`queued`'s reason is that of neither right opening it": it is that of both
pub record Neither (t : Table) (c : CapId) (r : Reason) : Type 0 where
  pub both : why_of t c Either ≡ Err (Shut r) → (why_of t c Send ≡ Err (Shut r)) × (why_of t c Receive ≡ Err (Shut r))
  pub back : why_of t c Send ≡ Err (Shut r) → why_of t c Receive ≡ Err (Shut r) → why_of t c Either ≡ Err (Shut r)

abbrev pub EitherIsNeither : Type 0
EitherIsNeither = (t : Table) (c : CapId) (r : Reason) → Neither t c r

-- no live endpoint of a sound table lacks both rights: `queued` is refused for one of the first three reasons
abbrev pub EitherNeverLacks : Type 0
EitherNeverLacks = (t : Table) → Sound t → (c : CapId) → why_of t c Either ≡ Err (Shut NoRight) → ⊥
