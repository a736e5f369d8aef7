-- Request No. 5: what the dispatcher's rules promise on every input. Proved in proofs/Promises.antt.
use Rattle.std.specs.Prelude.{◌≡◌, true, false, List, ℕ, Err, Ok, Option, Result}
use Rattle.cap.specs.declared.CapId.{CapId}
use Rattle.capslots.specs.Rows.{get_of, holds_of}
use Rattle.capslots.specs.declared.Table.{Table as Rows}
use Rattle.ipc_rules.specs.declared.state.Payload.{Payload}
use Rattle.ipc_rules.specs.declared.state.TaskId.{TaskId}
use Rattle.ipc_rules.specs.declared.state.Waiter.{Waiter}
use Rattle.ipc_rules.specs.declared.state.Table.{Table as Channels}
use Rattle.ipc_rules.specs.declared.answers.SendError.TheVariants.{BadRow}
use Rattle.dispatcher_rules.specs.Answers.{open_number, close_number}
use Rattle.dispatcher_rules.specs.State.{job_at}
use Rattle.dispatcher_rules.specs.Bound.{Bound}
use Rattle.dispatcher_rules.specs.Make.{make_of}
use Rattle.dispatcher_rules.specs.Border.{Ready, ready_test, open_job_call, close_job_call, slot_send_call, slot_recv_call, slot_park_call}
use Rattle.dispatcher_rules.specs.declared.state.Tag.{Tag}
use Rattle.dispatcher_rules.specs.declared.state.Variant.{Variant}
use Rattle.dispatcher_rules.specs.declared.state.Dispatcher.{Dispatcher}
use Rattle.dispatcher_rules.specs.declared.answers.MakeError.TheVariants.{BadVariants}
use Rattle.ipc_rules.specs.declared.answers.SendError.{SendError}
use Rattle.ipc_rules.specs.declared.state.Message.{Message}
use Rattle.ipc_rules.specs.declared.answers.RecvError.{RecvError}
use Rattle.ipc_rules.specs.declared.answers.ParkError.{ParkError}

-- all that was lent is as it was
pub record Unchanged (d : Dispatcher) (rows : Rows) (t : Channels) (d' : Dispatcher) (rows' : Rows) (t' : Channels) : Type 0 where
  pub dispatcher_kept : d' ≡ d
  pub rows_kept : rows' ≡ rows
  pub channels_kept : t' ≡ t

-- no row holds the id, and no slot of one names it
pub record Forgotten (rows : Rows) (c : CapId) : Type 0 where
  pub by_row : (r : ℕ) → holds_of rows r c ≡ false
  pub by_slot : (r s : ℕ) → get_of rows r s ≡ Ok c → ⊥

-- what was made is bound as it was asked for
abbrev pub MadeBound : Type 0
MadeBound =
    (n : ℕ) (vs : List Variant) → (make_of n vs).answer ≡ Ok tt → Bound n vs × ((make_of n vs).dispatcher.count ≡ n) × ((make_of n vs).dispatcher.variants ≡ vs)

-- what may be bound is made
abbrev pub BoundMade : Type 0
BoundMade = (n : ℕ) (vs : List Variant) → Bound n vs → (make_of n vs).answer ≡ Ok tt

-- with 37 nothing is bound
abbrev pub RefusedMaking : Type 0
RefusedMaking = (n : ℕ) (vs : List Variant) → (make_of n vs).answer ≡ Err BadVariants → (make_of n vs).dispatcher.count ≡ 0

-- and whatever making answers, no place is open
abbrev pub MadeClosed : Type 0
MadeClosed = (n : ℕ) (vs : List Variant) (p : ℕ) → (job_at (make_of n vs).dispatcher p).«open» ≡ false

-- a refused opening leaves all tables unchanged, the generation included
abbrev pub RefusedOpening : Type 0
RefusedOpening =
    (d : Dispatcher) (rows : Rows) (t : Channels) (tag : Tag) (x : ℕ) → let o = open_job_call d rows t tag x in
    (open_number o.answer ≡ 0 → ⊥) → Unchanged d rows t o.dispatcher o.rows o.channels

-- and so does a refused closing
abbrev pub RefusedClosing : Type 0
RefusedClosing =
    (d : Dispatcher) (rows : Rows) (t : Channels) (p : ℕ) → let o = close_job_call d rows t p in
    (close_number o.answer ≡ 0 → ⊥) → Unchanged d rows t o.dispatcher o.rows o.channels

-- a closing empties every slot that holds either id, whether or not it has a channel to revoke
abbrev pub ForgottenByClosing : Type 0
ForgottenByClosing =
    (d : Dispatcher) (rows : Rows) (t : Channels) (p : ℕ) (w : Waiter) → let o = close_job_call d rows t p in
    o.answer ≡ Ok w → Forgotten o.rows (job_at d p).ends.send × Forgotten o.rows (job_at d p).ends.recv

-- by row and slot: where the channel table's own call was not made, for the slot (8, 9) or the tables (27), nothing has changed
pub record Unasked (d : Dispatcher) (rows : Rows) (t : Channels) (r s : ℕ) : Type 0 where
  pub send : (p : Payload) → let o = slot_send_call d rows t r s p in ((a : Result Waiter SendError) → o.answer ≡ Ok a → ⊥) → Unchanged d rows t o.dispatcher o.rows o.channels
  pub receive : let o = slot_recv_call d rows t r s in ((a : Result Message RecvError) → o.answer ≡ Ok a → ⊥) → Unchanged d rows t o.dispatcher o.rows o.channels
  pub park : (task : TaskId) → let o = slot_park_call d rows t r s task in ((a : Result (Option Message) ParkError) → o.answer ≡ Ok a → ⊥) → Unchanged d rows t o.dispatcher o.rows o.channels

abbrev pub UnaskedSlot : Type 0
UnaskedSlot = (d : Dispatcher) (rows : Rows) (t : Channels) (r s : ℕ) → Unasked d rows t r s

-- request No. 10: a row from 54 up has no slots (8), so that 19 is never answered by row and slot
abbrev pub SlotRowPasses : Type 0
SlotRowPasses = (d : Dispatcher) (rows : Rows) (t : Channels) (r s : ℕ) (p : Payload) → (slot_send_call d rows t r s p).answer ≡ Ok (Err BadRow) → ⊥

-- 27 is for no other: a sound table and a dispatcher that keeps making's rules pass the test
abbrev pub ReadyPasses : Type 0
ReadyPasses = (d : Dispatcher) (t : Channels) → Ready d t → ready_test d t ≡ true
