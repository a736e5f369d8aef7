-- Document 01, "Channels": the calls that only look, `queued` by either right and `send_holders` by send, and the counts.
use Rattle.std.specs.Prelude.{Err, Ok, Result, ℕ}
use Rattle.cap.specs.Rights.{send_right}
use Rattle.cap.specs.declared.CapId.{CapId}
use Rattle.ipc_rules.specs.State.{mailbox_at, counts_of}
use Rattle.ipc_rules.specs.Opening.{opening_of, either_of, opened}
use Rattle.ipc_rules.specs.declared.state.Table.{Table}
use Rattle.ipc_rules.specs.declared.answers.CapError.TheVariants as cap_error
use Rattle.ipc_rules.specs.declared.answers.CapError.{CapError}
use Rattle.ipc_rules.specs.declared.state.Refusals.{Refusals}
use Rattle.ipc_rules.specs.declared.answers.TableError.{TableError}

-- how many messages wait
unfoldable pub queued_of : Table → CapId → Result ℕ CapError
queued_of t c = opened (either_of t c) (Err cap_error.BadCap) (λ k. Ok (mailbox_at t k).ring.len)

-- how many holds on the send end are registered and not released
unfoldable pub holders_of : Table → CapId → Result ℕ CapError
holders_of t c = opened (opening_of t c send_right) (Err cap_error.BadCap) (λ k. Ok (mailbox_at t k).send_holders)

abbrev pub refusals_of : Table → Result Refusals TableError
refusals_of t = Ok (counts_of t)
