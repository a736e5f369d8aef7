-- Document 01, "Channels": try to receive, and park.
use Rattle.std.specs.Prelude.{Bool, false, ◌&&◌, not, ℕ, ltb, eqb, Err, None, Ok, Option, Result, Some}
use Rattle.laws.specs.Pick.{pick}
use Rattle.cap.specs.Rights.{receive_right}
use Rattle.cap.specs.declared.CapId.{CapId}
use Rattle.ring.specs.Ring.{taken_out}
use Rattle.ipc_rules.specs.State.{mailbox_at, message_in, waiting, with_mailbox, with_ring, with_waiter}
use Rattle.ipc_rules.specs.Opening.{opening_of, opened}
use Rattle.ipc_rules.specs.Counts.{authority_raised, state_raised}
use Rattle.ipc_rules.specs.declared.state.Message.{Message}
use Rattle.ipc_rules.specs.declared.state.Mailbox.{Mailbox}
use Rattle.ipc_rules.specs.declared.state.TaskId.{TaskId}
use Rattle.ipc_rules.specs.declared.state.Waiter.{Waiter}
use Rattle.ipc_rules.specs.declared.state.Table.{Table}
use Rattle.ipc_rules.specs.declared.answers.RecvError.TheVariants as recv
use Rattle.ipc_rules.specs.declared.answers.ParkError.TheVariants as park
use Rattle.ipc_rules.specs.declared.answers.RecvError.{RecvError}
use Rattle.shown.specs.declared.Answered.{Answered}
use Rattle.ipc_rules.specs.declared.answers.ParkError.{ParkError}

-- a ring of depth d without its oldest message, whose place keeps it until it is written again
abbrev pub drained : ℕ → Mailbox → Mailbox
drained d b = with_ring b (taken_out d b.ring)

-- the oldest message of mailbox k, and the table without it
abbrev pub oldest : Table → ℕ → Message
oldest t k = message_in t k (mailbox_at t k).ring.tail

abbrev pub taken_from : Table → ℕ → Table
taken_from t k = with_mailbox t k (drained t.sizes.depth (mailbox_at t k))

-- BadCap; Empty; otherwise the oldest message
unfoldable pub recv_of : Table → CapId → Answered (Result Message RecvError) Table
recv_of t c =
    opened (opening_of t c receive_right) (record { answer = Err recv.BadCap; table = authority_raised t }) (λ k.
    pick (eqb (mailbox_at t k).ring.len 0) (record { answer = Err recv.Empty; table = t })
    (record { answer = Ok (oldest t k); table = taken_from t k }))

-- two tasks are one where slot and epoch agree
abbrev pub same_task : TaskId → TaskId → Bool
same_task x y = eqb x.slot y.slot && eqb x.epoch y.epoch

-- another task waits: the place is not vacant, and the task in it is not this one
abbrev pub other_waits : Waiter → TaskId → Bool
other_waits w task = pick w.present (not (same_task w.task task)) false

abbrev pub parked_in : Table → ℕ → TaskId → Table
parked_in t k task = with_mailbox t k (with_waiter (mailbox_at t k) (waiting task))

-- BadCap; a queued message is given; ephemeral with no send hold gives Cancelled; another task waiting gives Busy; otherwise parked
unfoldable pub park_of : Table → CapId → TaskId → Answered (Result (Option Message) ParkError) Table
park_of t c task =
    opened (opening_of t c receive_right) (record { answer = Err park.BadCap; table = authority_raised t }) (λ k.
    pick (ltb 0 (mailbox_at t k).ring.len) (record { answer = Ok (Some (oldest t k)); table = taken_from t k })
    (pick ((mailbox_at t k).ephemeral && eqb (mailbox_at t k).send_holders 0) (record { answer = Err park.Cancelled; table = t })
    (pick (other_waits (mailbox_at t k).waiter task) (record { answer = Err park.Busy; table = state_raised t })
    (record { answer = Ok None; table = parked_in t k task }))))
