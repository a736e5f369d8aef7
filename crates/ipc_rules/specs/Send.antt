-- Document 01, "Channels": send; request No. 10: "Messages get a fourth part, the sending row, one byte, set by the kernel."
use Rattle.std.specs.Prelude.{ℕ, eqb, leb, Err, Ok, Result}
use Rattle.laws.specs.Pick.{pick}
use Rattle.cap.specs.Rights.{send_right}
use Rattle.cap.specs.declared.CapId.{CapId}
use Rattle.ring.specs.Ring.{put_in}
use Rattle.ipc_rules.specs.State.{nobody, stamped, mailbox_at, with_mailbox, with_message, with_ring, with_waiter}
use Rattle.ipc_rules.specs.Opening.{opening_of, opened}
use Rattle.ipc_rules.specs.Counts.{authority_raised, full_raised}
use Rattle.ipc_rules.specs.declared.state.Payload.{Payload}
use Rattle.ipc_rules.specs.declared.state.Message.{Message}
use Rattle.ipc_rules.specs.declared.state.Mailbox.{Mailbox}
use Rattle.ipc_rules.specs.declared.state.Table.{Table}
use Rattle.ipc_rules.specs.declared.answers.SendError.TheVariants.{BadRow, BadCap, Full}
use Rattle.ipc_rules.specs.declared.state.Waiter.{Waiter}
use Rattle.ipc_rules.specs.declared.answers.SendError.{SendError}
use Rattle.shown.specs.declared.Answered.{Answered}

-- one message more in a ring of depth d, and the waiter taken out
abbrev pub filled : ℕ → Mailbox → Mailbox
filled d b = with_waiter (with_ring b (put_in d b.ring)) nobody

-- the message stands where the ring is next written
abbrev pub queued_in : Table → ℕ → Message → Table
queued_in t k m = with_message (with_mailbox t k (filled t.sizes.depth (mailbox_at t k))) k (mailbox_at t k).ring.head m

-- a row from 54 up is refused (19), before BadCap and without a count; then BadCap; Full when the length is d; otherwise queue what was handed
-- in, stamped with the row, and answer the waiter, taken out
unfoldable pub send_of : Table → CapId → Payload → ℕ → Answered (Result Waiter SendError) Table
send_of t c p row =
    pick (leb 54 row) (record { answer = Err BadRow; table = t })
    (opened (opening_of t c send_right) (record { answer = Err BadCap; table = authority_raised t }) (λ k.
    pick (eqb (mailbox_at t k).ring.len t.sizes.depth) (record { answer = Err Full; table = full_raised t })
    (record { answer = Ok (mailbox_at t k).waiter; table = queued_in t k (stamped p row) })))
