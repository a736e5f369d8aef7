-- Demand 3: "an id of channel n opens channel n or nothing", by call: what each call does with an id that opens the one or the other.
--
--   a call with one id                       `Reaches`: refused with BadCap, or answered by the mailbox where n lives, and no other changes; a
--                                            send that names a row from 54 up is refused before its id is looked at: `RowRefused`
--   the lists of a register and a release    `Touches`: the slot's own step changes that mailbox alone, or nothing; `AlikeBut`: so other
--                                            mailboxes are changed by the other ids of the list alone
use Rattle.std.specs.Prelude.{◌≡◌, Bool, ◌&&◌, List, [], ◌∷◌, ◌⊎◌, ℕ, ◌≤◌, ◌<◌, eqb, get_or, length, set, Err, None, Ok, Option, Result, Some}
use Rattle.laws.specs.Pick.{pick}
use Rattle.laws.specs.Refusals as no
use Rattle.cap.specs.Slot.{vacant_slot}
use Rattle.cap.specs.Word.{read_word}
use Rattle.cap.specs.declared.CapId.{CapId}
use Rattle.cap.specs.declared.slot.Slot.{Slot}
use Rattle.ipc_rules.specs.Holds.{registered, registered_all, Freed, released, released_all}
use Rattle.ipc_rules.specs.Receive.{other_waits}
use Rattle.ipc_rules.specs.Views.{queue_of, waiter_of, hold_count, ephemeral_of, Alike, OnlyMailbox, OnlyCounts}
use Rattle.ipc_rules.specs.declared.state.Message.{Message}
use Rattle.ipc_rules.specs.declared.state.Payload.{Payload}
use Rattle.ipc_rules.specs.declared.state.TaskId.{TaskId}
use Rattle.ipc_rules.specs.declared.state.Waiter.{Waiter}
use Rattle.ipc_rules.specs.declared.state.Table.{Table}
use Rattle.ipc_rules.specs.declared.answers.SendError.TheVariants.{Full}
use Rattle.ipc_rules.specs.declared.answers.RecvError.TheVariants.{Empty}
use Rattle.ipc_rules.specs.declared.answers.ParkError.TheVariants.{Busy, Cancelled}
use Rattle.history.specs.Calls.{Call, send, receive, park, queued, revoke, register, releasing, holders, Answer, sent, received, parked, measured, revoked, held, answer, after}
use Rattle.history.specs.Numbers.{number_of, values_of}
use Rattle.history.specs.Refusals.{RowRefused}
use Rattle.history.specs.World.{World}
use Rattle.history.specs.Channels.{LivesIn}
use Rattle.ipc_rules.specs.declared.answers.RecvError.{RecvError}
use Rattle.ipc_rules.specs.declared.answers.ParkError.{ParkError}

-- ---- a call with one id
-- the oldest of what waits, or Empty
unfoldable pub oldest_of : List Message → Result Message RecvError
oldest_of [] = Err Empty
oldest_of (m ∷ ms) = Ok m

-- a park's answer, by what waits in the mailbox, whether it is ephemeral, its holds and its waiter
unfoldable pub park_by : TaskId → List Message → Bool → ℕ → Waiter → Result (Option Message) ParkError
park_by task (m ∷ ms) ephemeral n x = Ok (Some m)
park_by task [] ephemeral n x = pick (ephemeral && eqb n 0) (Err Cancelled) (pick (other_waits x task) (Err Busy) (Ok None))

-- how a mailbox answers each call with an id
abbrev pub send_at : Table → ℕ → Answer
send_at t k = sent (pick (eqb (length (queue_of t k)) t.sizes.depth) (Err Full) (Ok (waiter_of t k)))

abbrev pub receive_at : Table → ℕ → Answer
receive_at t k = received (oldest_of (queue_of t k))

abbrev pub park_at : Table → TaskId → ℕ → Answer
park_at t task k = parked (park_by task (queue_of t k) (ephemeral_of t k) (hold_count t k) (waiter_of t k))

abbrev pub queued_at : Table → ℕ → Answer
queued_at t k = measured (Ok (length (queue_of t k)))

abbrev pub revoke_at : Table → ℕ → Answer
revoke_at t k = revoked (Ok (waiter_of t k))

abbrev pub holders_at : Table → ℕ → Answer
holders_at t k = held (Ok (hold_count t k))

-- a call on channel n or on nothing: refused with BadCap, which shows no values, or answered by the mailbox where n lives; no other mailbox
-- changes
pub data Reaches (w : World) (n : ℕ) (call : Call) (of : ℕ → Answer) : Type 0 where
  nothing : number_of (answer w.table call) ≡ no.bad_cap → values_of (answer w.table call) ≡ [] → OnlyCounts w.table (after w.table call) → Reaches w n call of
  channel : (k : ℕ) → LivesIn w n k → answer w.table call ≡ of k → ((j : ℕ) → (j ≡ k → ⊥) → Alike w.table (after w.table call) j) → Reaches w n call of

-- ---- in a list
-- what a slot does at its turn, from table t on: nothing, or something to the mailbox where n lives and to no other; whom it wakes waited there
pub data Touches (w : World) (n : ℕ) (t : Table) (r : Freed) : Type 0 where
  untouched : r ≡ record { table = t; woken = [] } → Touches w n t r
  touched : (k : ℕ) → LivesIn w n k → OnlyMailbox t r.table k → (r.woken ≡ []) ⊎ (r.woken ≡ waiter_of t k ∷ []) → Touches w n t r

-- a call does to every mailbox but the one where n lives what another does
abbrev pub AlikeBut : World → ℕ → Call → Call → Type 0
AlikeBut w n call other = (j : ℕ) → (LivesIn w n j → ⊥) → Alike (after w.table other) (after w.table call) j

-- ---- every call with the id c
pub record Reach (w : World) (n : ℕ) (c : CapId) : Type 0 where
  pub send : (p : Payload) (row : ℕ) → row < 54 → Reaches w n (send c p row) (send_at w.table)
  pub send_refused : (p : Payload) (row : ℕ) → 54 ≤ row → RowRefused w.table c p row
  pub receive : Reaches w n (receive c) (receive_at w.table)
  pub park : (task : TaskId) → Reaches w n (park c task) (park_at w.table task)
  pub queued : Reaches w n (queued c) (queued_at w.table)
  pub revoke : Reaches w n (revoke c) (revoke_at w.table)
  pub holders : Reaches w n (holders c) (holders_at w.table)
  -- at its turn in a list, behind any slots
  pub registers : (x : Slot) → x.id ≡ c → (before : List Slot) → let t = registered_all w.table before in Touches w n t (record { table = registered t x; woken = [] })
  pub releases : (x : Slot) → x.id ≡ c → (before : List Slot) → let t = (released_all w.table before).table in Touches w n t (released t x)
  -- and in the whole call, at any place i: what is done to other mailboxes is done with that place vacant too
  pub register : (words : List ℕ) (i : ℕ) (x : Slot) → read_word (get_or words i 0) ≡ Ok x → x.id ≡ c → AlikeBut w n (register words) (register (set words i 0))
  pub release : (slots : List Slot) (i : ℕ) → (get_or slots i vacant_slot).id ≡ c → AlikeBut w n (releasing slots) (releasing (set slots i vacant_slot))
