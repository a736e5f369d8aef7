-- Document 01, refusal 27: a call that is lent an unsound channel table refuses it first of all, and gives it back as it was.
use Rattle.std.specs.Prelude.{Bool, List, [], ℕ, Err, Option, Result, ⊤}
use Rattle.laws.specs.Pick.{pick}
use Rattle.cap.specs.declared.CapId.{CapId}
use Rattle.cap.specs.declared.slot.Slot.{Slot}
use Rattle.ipc_sound.specs.SoundTest.{sound_test}
use Rattle.ipc_rules.specs.Counts.{note_authority_of, note_state_of}
use Rattle.ipc_rules.specs.Create.{create_of}
use Rattle.ipc_rules.specs.Send.{send_of}
use Rattle.ipc_rules.specs.Receive.{recv_of, park_of}
use Rattle.ipc_rules.specs.Observe.{queued_of, holders_of, refusals_of}
use Rattle.ipc_rules.specs.Holds.{register_of, release_of, four_of}
use Rattle.ipc_rules.specs.Revoke.{revoke_of}
use Rattle.ipc_rules.specs.Waiters.{clear_of}
use Rattle.ipc_rules.specs.declared.state.Payload.{Payload}
use Rattle.ipc_rules.specs.declared.state.TaskId.{TaskId}
use Rattle.ipc_rules.specs.declared.state.Table.{Table}
use Rattle.ipc_rules.specs.declared.answers.CreateError.TheVariants as create
use Rattle.ipc_rules.specs.declared.answers.SendError.TheVariants as send
use Rattle.ipc_rules.specs.declared.answers.RecvError.TheVariants as recv
use Rattle.ipc_rules.specs.declared.answers.ParkError.TheVariants as park
use Rattle.ipc_rules.specs.declared.answers.CapError.TheVariants as cap_error
use Rattle.ipc_rules.specs.declared.answers.WhyError.TheVariants as why
use Rattle.ipc_rules.specs.declared.opening.Asked.{Asked}
use Rattle.ipc_rules.specs.Why.{why_of}
use Rattle.ipc_rules.specs.declared.answers.RegisterError.TheVariants as register
use Rattle.ipc_rules.specs.declared.answers.Releasing.{Releasing}
use Rattle.ipc_rules.specs.declared.answers.TableError.TheVariants as table_error
use Rattle.ipc_rules.specs.declared.state.Channel.{Channel}
use Rattle.ipc_rules.specs.declared.answers.CreateError.{CreateError}
use Rattle.shown.specs.declared.Answered.{Answered}
use Rattle.ipc_rules.specs.declared.state.Waiter.{Waiter}
use Rattle.ipc_rules.specs.declared.answers.SendError.{SendError}
use Rattle.ipc_rules.specs.declared.state.Message.{Message}
use Rattle.ipc_rules.specs.declared.answers.RecvError.{RecvError}
use Rattle.ipc_rules.specs.declared.answers.ParkError.{ParkError}
use Rattle.ipc_rules.specs.declared.answers.CapError.{CapError}
use Rattle.ipc_rules.specs.declared.answers.WhyError.{WhyError}
use Rattle.ipc_rules.specs.declared.answers.RegisterError.{RegisterError}
use Rattle.ipc_rules.specs.declared.answers.TableError.{TableError}
use Rattle.ipc_rules.specs.declared.state.Refusals.{Refusals}

-- the call's rule on a sound table, and the refusal on another
unfoldable pub guarded : {A : Type 0} → Table → A → A → A
guarded t refused rule = pick (sound_test t) rule refused

abbrev pub create_call : Table → Bool → Answered (Result Channel CreateError) Table
create_call t ephemeral = guarded t (record { answer = Err create.BadTable; table = t }) (create_of t ephemeral)

abbrev pub send_call : Table → CapId → Payload → ℕ → Answered (Result Waiter SendError) Table
send_call t c p row = guarded t (record { answer = Err send.BadTable; table = t }) (send_of t c p row)

abbrev pub recv_call : Table → CapId → Answered (Result Message RecvError) Table
recv_call t c = guarded t (record { answer = Err recv.BadTable; table = t }) (recv_of t c)

abbrev pub park_call : Table → CapId → TaskId → Answered (Result (Option Message) ParkError) Table
park_call t c task = guarded t (record { answer = Err park.BadTable; table = t }) (park_of t c task)

abbrev pub queued_call : Table → CapId → Result ℕ CapError
queued_call t c = guarded t (Err cap_error.BadTable) (queued_of t c)

abbrev pub why_call : Table → CapId → Asked → Result ⊤ WhyError
why_call t c asked = guarded t (Err why.BadTable) (why_of t c asked)

abbrev pub holders_call : Table → CapId → Result ℕ CapError
holders_call t c = guarded t (Err cap_error.BadTable) (holders_of t c)

abbrev pub register_call : Table → List ℕ → Answered (Result ⊤ RegisterError) Table
register_call t words = guarded t (record { answer = Err register.BadTable; table = t }) (register_of t words)

abbrev pub release_call : Table → List Slot → Releasing
release_call t slots = guarded t (record { answer = Err table_error.BadTable; waiters = four_of []; table = t }) (release_of t slots)

abbrev pub revoke_call : Table → CapId → Answered (Result Waiter CapError) Table
revoke_call t c = guarded t (record { answer = Err cap_error.BadTable; table = t }) (revoke_of t c)

abbrev pub clear_call : Table → TaskId → Answered (Result ℕ TableError) Table
clear_call t task = guarded t (record { answer = Err table_error.BadTable; table = t }) (clear_of t task)

abbrev pub note_authority_call : Table → Answered (Result ⊤ TableError) Table
note_authority_call t = guarded t (record { answer = Err table_error.BadTable; table = t }) (note_authority_of t)

abbrev pub note_state_call : Table → Answered (Result ⊤ TableError) Table
note_state_call t = guarded t (record { answer = Err table_error.BadTable; table = t }) (note_state_of t)

abbrev pub refusals_call : Table → Result Refusals TableError
refusals_call t = guarded t (Err table_error.BadTable) (refusals_of t)
