-- Document 01, "The operation log", operations 0 to 6, 9 to 12 and 27: the calls on the channel table.
use Rattle.std.specs.Prelude.{not, List, [], ℕ, eqb, Option, Result, ⊤}
use Rattle.laws.specs.Pick.{pick}
use Rattle.laws.specs.Refusals as no
use Rattle.shown.specs.Shown.{shown}
use Rattle.shown.specs.declared.Shown.{Shown}
use Rattle.capslots.specs.Table as rows
use Rattle.irqcap.specs.Table as irqs
use Rattle.taskcap.specs.Table as tasks
use Rattle.ipc_rules.specs.Answers.{create_number, create_values, send_number, send_values, recv_number, recv_values, park_number, park_values, queued_number, queued_values, holders_number, holders_values, revoke_number, revoke_values, clear_number, clear_values, note_number, note_values, counts_number, counts_values}
use Rattle.ipc_rules.specs.Counts.{note_authority_of, note_state_of}
use Rattle.ipc_rules.specs.Create.{create_of}
use Rattle.ipc_rules.specs.State.{sizes_of}
use Rattle.ipc_rules.specs.Make.{in_range, fresh_of}
use Rattle.ipc_rules.specs.Observe.{queued_of, holders_of, refusals_of}
use Rattle.ipc_rules.specs.Receive.{recv_of, park_of}
use Rattle.ipc_rules.specs.Revoke.{revoke_of}
use Rattle.ipc_rules.specs.Send.{send_of}
use Rattle.ipc_rules.specs.Waiters.{clear_of}
use Rattle.ipc_rules.specs.Why.{why_of, why_number, why_values}
use Rattle.ipc_rules.specs.declared.opening.Asked.TheVariants.{Send, Receive, Either}
use Rattle.logread.specs.Little.{byte_at}
use Rattle.operations.specs.Done.{Done, done, with_channels}
use Rattle.operations.specs.Operands.{id_at, task_at, payload_at, sizes_at}
use Rattle.operations.specs.declared.Tables.{Tables}
use Rattle.operations.specs.declared.fresh.Fresh.{Fresh}
use Rattle.ipc_rules.specs.declared.answers.NewError.{NewError}
use Rattle.shown.specs.declared.Answered.{Answered}
use Rattle.ipc_rules.specs.declared.state.Table.{Table as Channels}
use Rattle.ipc_rules.specs.declared.state.Channel.{Channel}
use Rattle.ipc_rules.specs.declared.answers.CreateError.{CreateError}
use Rattle.ipc_rules.specs.declared.state.Waiter.{Waiter}
use Rattle.ipc_rules.specs.declared.answers.SendError.{SendError}
use Rattle.ipc_rules.specs.declared.state.Message.{Message}
use Rattle.ipc_rules.specs.declared.answers.RecvError.{RecvError}
use Rattle.ipc_rules.specs.declared.answers.ParkError.{ParkError}
use Rattle.ipc_rules.specs.declared.answers.CapError.{CapError}
use Rattle.ipc_rules.specs.declared.answers.TableError.{TableError}
use Rattle.ipc_rules.specs.declared.answers.WhyError.{WhyError}

-- ---- the reason at a line's end
-- request No. 6, "the reason, 1 to 4, only ends the replay lines on which send, receive, park or `queued` prints BadCap": the values of such a
-- line, by its number. BadCap has none of its own
unfoldable pub reasoned : Result ⊤ WhyError → ℕ → List ℕ → List ℕ
reasoned why n vs = pick (eqb n no.bad_cap) (why_values why) vs

-- the same as the code has it, where BadCap and a reason come together (`ReasonsTie`)
unfoldable pub reasoned_in : Result ⊤ WhyError → Shown → Shown
reasoned_in why s = pick (eqb s.number no.bad_cap) (shown (why_number why) (why_values why)) s

-- ---- what a call's answer and table come to
abbrev pub after_create : Tables → Answered (Result Channel CreateError) Channels → Done
after_create t r = done (create_number r.answer) (create_values r.answer) (with_channels t r.table)

abbrev pub after_send : Tables → Result ⊤ WhyError → Answered (Result Waiter SendError) Channels → Done
after_send t why r = done (send_number r.answer) (reasoned why (send_number r.answer) (send_values r.answer)) (with_channels t r.table)

abbrev pub after_receive : Tables → Result ⊤ WhyError → Answered (Result Message RecvError) Channels → Done
after_receive t why r = done (recv_number r.answer) (reasoned why (recv_number r.answer) (recv_values r.answer)) (with_channels t r.table)

abbrev pub after_park : Tables → Result ⊤ WhyError → Answered (Result (Option Message) ParkError) Channels → Done
after_park t why r = done (park_number r.answer) (reasoned why (park_number r.answer) (park_values r.answer)) (with_channels t r.table)

abbrev pub after_queued : Tables → Result ⊤ WhyError → Result ℕ CapError → Done
after_queued t why a = done (queued_number a) (reasoned why (queued_number a) (queued_values a)) t

abbrev pub after_revoke : Tables → Answered (Result Waiter CapError) Channels → Done
after_revoke t r = done (revoke_number r.answer) (revoke_values r.answer) (with_channels t r.table)

abbrev pub after_holders : Tables → Result ℕ CapError → Done
after_holders t a = done (holders_number a) (holders_values a) t

abbrev pub after_clear : Tables → Answered (Result ℕ TableError) Channels → Done
after_clear t r = done (clear_number r.answer) (clear_values r.answer) (with_channels t r.table)

abbrev pub after_note : Tables → Answered (Result ⊤ TableError) Channels → Done
after_note t r = done (note_number r.answer) (note_values r.answer) (with_channels t r.table)

-- every table fresh, the channel table of the sizes given
abbrev pub all_fresh : ℕ → ℕ → ℕ → Tables
all_fresh m e d = record { channels = fresh_of (sizes_of m e d); rows = rows.fresh_table; tasks = tasks.fresh_table; irqs = irqs.fresh_table }

-- the same beside the answer of the channel table's own `new`
abbrev pub fresh_by : Answered (Result ⊤ NewError) Channels → Fresh
fresh_by n = record { answer = n.answer; tables = record { channels = n.table; rows = rows.fresh_table; tasks = tasks.fresh_table; irqs = irqs.fresh_table } }

-- ---- the operations
-- 0, new (m, e, d): every table fresh, or all kept as they were on 20
unfoldable pub new_done : List ℕ → Tables → Done
new_done log t =
    pick (in_range (sizes_at log 3))
    (done no.none [] (all_fresh (byte_at log 3) (byte_at log 4) (byte_at log 5)))
    (done no.bad_sizes [] t)

-- 1, create (ephemeral where the flag is not 0)
unfoldable pub create_done : List ℕ → Tables → Done
create_done log t = after_create t (create_of t.channels (not (eqb (byte_at log 3) 0)))

-- 2, send (id, tag, a, b, row); 2 to 5 ask the table as they find it why the id opens nothing
unfoldable pub send_done : List ℕ → Tables → Done
send_done log t = after_send t (why_of t.channels (id_at log 3) Send) (send_of t.channels (id_at log 3) (payload_at log 7) (byte_at log 27))

-- 3, receive (id)
unfoldable pub receive_done : List ℕ → Tables → Done
receive_done log t = after_receive t (why_of t.channels (id_at log 3) Receive) (recv_of t.channels (id_at log 3))

-- 4, park (id, task)
unfoldable pub park_done : List ℕ → Tables → Done
park_done log t = after_park t (why_of t.channels (id_at log 3) Receive) (park_of t.channels (id_at log 3) (task_at log 7))

-- 5, queued (id)
unfoldable pub queued_done : List ℕ → Tables → Done
queued_done log t = after_queued t (why_of t.channels (id_at log 3) Either) (queued_of t.channels (id_at log 3))

-- 6, revoke (id)
unfoldable pub revoke_done : List ℕ → Tables → Done
revoke_done log t = after_revoke t (revoke_of t.channels (id_at log 3))

-- 9, holders (id)
unfoldable pub holders_done : List ℕ → Tables → Done
holders_done log t = after_holders t (holders_of t.channels (id_at log 3))

-- 10, clear waiter (task)
unfoldable pub clear_done : List ℕ → Tables → Done
clear_done log t = after_clear t (clear_of t.channels (task_at log 3))

-- 11, note authority
unfoldable pub note_authority_done : Tables → Done
note_authority_done t = after_note t (note_authority_of t.channels)

-- 12, note state
unfoldable pub note_state_done : Tables → Done
note_state_done t = after_note t (note_state_of t.channels)

-- 27, counts
unfoldable pub counts_done : Tables → Done
counts_done t = done (counts_number (refusals_of t.channels)) (counts_values (refusals_of t.channels)) t
