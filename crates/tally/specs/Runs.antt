-- Request No. 7: "From fresh tables, with only the joined steps, creation, revocation, sending, receiving, parking, clearing and transfer, with
-- at most 65,535 successful creations, and where each endpoint id put in a slot came from an earlier creation". Beside these the calls of a
-- job dispatcher that is made in the run; an opening that succeeds is a creation.
use Rattle.std.specs.Prelude.{◌≡◌, Bool, true, List, [], ◌∷◌, ℕ, ◌<◌, replicate, Err, Ok, Result}
use Rattle.cap.specs.Id.{class_of}
use Rattle.cap.specs.Slot.{holding}
use Rattle.cap.specs.Word.{slot_at}
use Rattle.cap.specs.declared.CapId.{CapId}
use Rattle.capslots.specs.Table.{fresh_table}
use Rattle.capslots.specs.Transfer.{is_endpoint, transfer_of}
use Rattle.capslots.specs.declared.Table.{Table as Rows}
use Rattle.ipc_rules.specs.Create.{create_of}
use Rattle.ipc_rules.specs.Make.{fresh_of, in_range}
use Rattle.ipc_rules.specs.Receive.{recv_of, park_of}
use Rattle.ipc_rules.specs.Revoke.{revoke_of}
use Rattle.ipc_rules.specs.Send.{send_of}
use Rattle.ipc_rules.specs.Waiters.{clear_of}
use Rattle.ipc_rules.specs.declared.state.Channel.{Channel}
use Rattle.ipc_rules.specs.declared.state.Payload.{Payload}
use Rattle.ipc_rules.specs.declared.state.Sizes.{Sizes}
use Rattle.ipc_rules.specs.declared.state.TaskId.{TaskId}
use Rattle.ipc_rules.specs.declared.state.Table.{Table as Channels}
use Rattle.ipc_rules.specs.declared.answers.CreateError.TheVariants as toCreate
use Rattle.joined.specs.Steps.{spawn_of, leave_of, give_of}
use Rattle.dispatcher_rules.specs.State.{no_variant}
use Rattle.dispatcher_rules.specs.Make.{make_of}
use Rattle.dispatcher_rules.specs.Open.{open_job_of}
use Rattle.dispatcher_rules.specs.Close.{close_job_of}
use Rattle.dispatcher_rules.specs.Slots.{slot_send_of, slot_recv_of, slot_park_of}
use Rattle.dispatcher_rules.specs.declared.state.Dispatcher.{Dispatcher}
use Rattle.dispatcher_rules.specs.declared.state.Tag.{Tag}
use Rattle.dispatcher_rules.specs.declared.state.Variant.{Variant}
use Rattle.dispatcher_rules.specs.declared.answers.OpenError.TheVariants as toOpen
use Rattle.ipc_rules.specs.declared.answers.CreateError.{CreateError}
use Rattle.dispatcher_rules.specs.declared.answers.OpenedJob.{OpenedJob}
use Rattle.dispatcher_rules.specs.declared.answers.OpenError.{OpenError}

-- what a dispatcher is lent and itself (`Desk` of `dispatcher_rules`), and the ids that creations have answered so far, the last first
pub record Books : Type 0 where
  pub channels : Channels
  pub rows : Rows
  pub dispatcher : Dispatcher
  pub created : List Channel

-- a row and a list; a row; a row, a slot and an id; .. a send has an id, what is handed in and the sending row; a transfer has from which row
-- and slot to which; the last six are a dispatcher's, three of them by row and slot
pub data Step : Type 0 where
  spawn : ℕ → List ℕ → Step
  leave : ℕ → Step
  give : ℕ → ℕ → CapId → Step
  create : Bool → Step
  revoke : CapId → Step
  send : CapId → Payload → ℕ → Step
  receive : CapId → Step
  park : CapId → TaskId → Step
  clear : TaskId → Step
  transfer : ℕ → ℕ → ℕ → ℕ → Step
  make : ℕ → List Variant → Step
  open_for : Tag → ℕ → Step
  close : ℕ → Step
  send_by : ℕ → ℕ → Payload → Step
  receive_by : ℕ → ℕ → Step
  park_by : ℕ → ℕ → TaskId → Step

-- ---- what a step leaves
-- the ids so far, with those of a creation that succeeded
unfoldable pub if_created : Result Channel CreateError → List Channel → List Channel
if_created (Ok ids) l = ids ∷ l
if_created (Err toCreate.NoMailbox) l = l
if_created (Err toCreate.NoEndpoint) l = l
if_created (Err toCreate.BadTable) l = l

unfoldable pub if_opened : Result OpenedJob OpenError → List Channel → List Channel
if_opened (Ok j) l = record { send = j.send; recv = j.recv } ∷ l
if_opened (Err toOpen.NoVariant) l = l
if_opened (Err toOpen.BadRow) l = l
if_opened (Err toOpen.JobsFull) l = l
if_opened (Err toOpen.NoMailbox) l = l
if_opened (Err toOpen.NoEndpoint) l = l
if_opened (Err toOpen.BadSlot) l = l
if_opened (Err toOpen.BadTable) l = l

-- another channel table; another channel table and other rows
abbrev pub with_channels : Books → Channels → Books
with_channels b t = record { channels = t; rows = b.rows; dispatcher = b.dispatcher; created = b.created }

abbrev pub with_both : Books → Channels → Rows → Books
with_both b t rows = record { channels = t; rows = rows; dispatcher = b.dispatcher; created = b.created }

unfoldable pub after : Books → Step → Books
after b (spawn r words) = let o = spawn_of b.channels b.rows r words in with_both b o.channels o.rows
after b (leave r) = let o = leave_of b.channels b.rows r in with_both b o.channels o.rows
after b (give r s c) = let o = give_of b.channels b.rows r s c in with_both b o.channels o.rows
after b (create ephemeral) =
    let o = create_of b.channels ephemeral in
    record { channels = o.table; rows = b.rows; dispatcher = b.dispatcher; created = if_created o.answer b.created }
after b (revoke c) = with_channels b (revoke_of b.channels c).table
after b (send c p row) = with_channels b (send_of b.channels c p row).table
after b (receive c) = with_channels b (recv_of b.channels c).table
after b (park c task) = with_channels b (park_of b.channels c task).table
after b (clear task) = with_channels b (clear_of b.channels task).table
after b (transfer r s r' s') = with_both b b.channels (transfer_of b.rows r s r' s').table
after b (make n vs) = record { channels = b.channels; rows = b.rows; dispatcher = (make_of n vs).dispatcher; created = b.created }
after b (open_for tag x) =
    let o = open_job_of b.dispatcher b.rows b.channels tag x in
    record { channels = o.channels; rows = o.rows; dispatcher = o.dispatcher; created = if_opened o.answer b.created }
after b (close p) =
    let o = close_job_of b.dispatcher b.rows b.channels p in
    record { channels = o.channels; rows = o.rows; dispatcher = o.dispatcher; created = b.created }
after b (send_by r s p) =
    let o = slot_send_of b.dispatcher b.rows b.channels r s p in
    record { channels = o.channels; rows = o.rows; dispatcher = o.dispatcher; created = b.created }
after b (receive_by r s) =
    let o = slot_recv_of b.dispatcher b.rows b.channels r s in
    record { channels = o.channels; rows = o.rows; dispatcher = o.dispatcher; created = b.created }
after b (park_by r s task) =
    let o = slot_park_of b.dispatcher b.rows b.channels r s task in
    record { channels = o.channels; rows = o.rows; dispatcher = o.dispatcher; created = b.created }

-- ---- where ids come from
-- one of the two ids of one of the creations
pub data Among (c : CapId) : List Channel → Type 0 where
  as_send : {ids : Channel} {l : List Channel} → c ≡ ids.send → Among c (ids ∷ l)
  as_recv : {ids : Channel} {l : List Channel} → c ≡ ids.recv → Among c (ids ∷ l)
  earlier : {ids : Channel} {l : List Channel} → Among c l → Among c (ids ∷ l)

-- the two ids of one of the creations
pub data Made (ids : Channel) : List Channel → Type 0 where
  last : {l : List Channel} → Made ids (ids ∷ l)
  before : {other : Channel} {l : List Channel} → Made ids l → Made ids (other ∷ l)

-- an id of the endpoints' class came from an earlier creation; one of another class may come from anywhere
abbrev pub CameFrom : List Channel → CapId → Type 0
CameFrom l c = is_endpoint (class_of c) ≡ true → Among c l

-- the premise on ids: so did each that the step puts in a slot itself, the first four of a spawn's list and the one given. A refused step puts
-- none there, a transfer moves one that is in a slot already, and an opening puts those of its own creation
unfoldable pub PutsCreated : Books → Step → Type 0
PutsCreated b (spawn r words) =
    (spawn_of b.channels b.rows r words).answer ≡ Ok tt → (i : ℕ) (c : CapId) → i < 4 → slot_at words i ≡ holding c → CameFrom b.created c
PutsCreated b (leave r) = Unit
PutsCreated b (give r s c) = (give_of b.channels b.rows r s c).answer ≡ Ok tt → CameFrom b.created c
PutsCreated b (create ephemeral) = Unit
PutsCreated b (revoke c) = Unit
PutsCreated b (send c p row) = Unit
PutsCreated b (receive c) = Unit
PutsCreated b (park c task) = Unit
PutsCreated b (clear task) = Unit
PutsCreated b (transfer r s r' s') = Unit
PutsCreated b (make n vs) = Unit
PutsCreated b (open_for tag x) = Unit
PutsCreated b (close p) = Unit
PutsCreated b (send_by r s p) = Unit
PutsCreated b (receive_by r s) = Unit
PutsCreated b (park_by r s task) = Unit

-- ---- runs
-- fresh tables, and a dispatcher with nothing bound, for which no tag opens until one is made
abbrev pub start : Sizes → Books
start z = record { channels = fresh_of z; rows = fresh_table; dispatcher = (make_of 0 (replicate 16 no_variant)).dispatcher; created = [] }

-- from fresh tables of any sizes that a table can be made with; sizes that are refused give those of 0, 0 and 1
pub data Reached : Books → Type 0 where
  fresh : (z : Sizes) → in_range z ≡ true → Reached (start z)
  then : {b : Books} → Reached b → (s : Step) → PutsCreated b s → Reached (after b s)
