-- The job script: what each operation does and shows, by its number, 0 to 7.
use Rattle.std.specs.Prelude.{List, [], ◌∷◌, ℕ, leb, get_or, replicate}
use Rattle.laws.specs.Pick.{pick}
use Rattle.laws.specs.Refusals as no
use Rattle.capslots.specs.Answers.{drain_values}
use Rattle.capslots.specs.Table.{fresh_table, row_at}
use Rattle.ipc_rules.specs.Answers.{counts_number, counts_values}
use Rattle.ipc_rules.specs.Make.{in_range, fresh_of}
use Rattle.ipc_rules.specs.Observe.{refusals_of}
use Rattle.ipc_rules.specs.State.{sizes_of}
use Rattle.ipc_rules.specs.declared.state.Sizes.{Sizes}
use Rattle.logread.specs.Little.{byte_at}
use Rattle.dispatcher_rules.specs.Answers.{open_number, open_values, close_number, close_values, slot_send_number, slot_send_values, slot_recv_number, slot_recv_values, slot_park_number, slot_park_values}
use Rattle.dispatcher_rules.specs.State.{no_variant, fresh_dispatcher}
use Rattle.dispatcher_rules.specs.Bound.{bound_test}
use Rattle.dispatcher_rules.specs.Open.{open_job_of}
use Rattle.dispatcher_rules.specs.Close.{close_job_of}
use Rattle.dispatcher_rules.specs.Slots.{slot_send_of, slot_recv_of, slot_park_of}
use Rattle.dispatcher_rules.specs.declared.state.Variant.{Variant}
use Rattle.dispatcher_rules.specs.declared.state.Desk.{Desk}
use Rattle.dispatcher_rules.specs.declared.answers.JobOpening.{JobOpening}
use Rattle.dispatcher_rules.specs.declared.answers.JobClosing.{JobClosing}
use Rattle.dispatcher_rules.specs.declared.answers.SlotSending.{SlotSending}
use Rattle.dispatcher_rules.specs.declared.answers.SlotReceiving.{SlotReceiving}
use Rattle.dispatcher_rules.specs.declared.answers.SlotParking.{SlotParking}
use Rattle.jobscript.specs.Done.{Done, done, desk_of}
use Rattle.jobscript.specs.Operands.{sizes_at, count_at, variants_at, tag_at, payload_at, task_at}

-- ---- fresh desks
-- fresh tables of the sizes given, and a dispatcher with the first n variants bound
abbrev pub fresh_desk : Sizes → ℕ → List Variant → Desk
fresh_desk z n vs = desk_of (fresh_dispatcher n vs) fresh_table (fresh_of z)

-- where a script starts: sizes 32, 64, 8, and nothing bound
abbrev pub start_desk : Desk
start_desk = fresh_desk (sizes_of 32 64 8) 0 (replicate 16 no_variant)

-- ---- what a call's answer comes to, with all that it gives back
abbrev pub after_open : JobOpening → Done
after_open r = done (open_number r.answer) (open_values r.answer) (desk_of r.dispatcher r.rows r.channels)

abbrev pub after_close : JobClosing → Done
after_close r = done (close_number r.answer) (close_values r.answer) (desk_of r.dispatcher r.rows r.channels)

abbrev pub after_send : SlotSending → Done
after_send r = done (slot_send_number r.answer) (slot_send_values r.answer) (desk_of r.dispatcher r.rows r.channels)

abbrev pub after_receive : SlotReceiving → Done
after_receive r = done (slot_recv_number r.answer) (slot_recv_values r.answer) (desk_of r.dispatcher r.rows r.channels)

abbrev pub after_park : SlotParking → Done
after_park r = done (slot_park_number r.answer) (slot_park_values r.answer) (desk_of r.dispatcher r.rows r.channels)

-- ---- the operations
-- 0, new (m, e, d, count, variants): all fresh; 20 for the sizes comes before 37 for the variants, and either keeps everything as it was
unfoldable pub new_done : List ℕ → Desk → Done
new_done script d =
    pick (in_range (sizes_at script))
    (pick (bound_test (count_at script) (variants_at script))
    (done no.none [] (fresh_desk (sizes_at script) (count_at script) (variants_at script)))
    (done no.bad_variants [] d))
    (done no.bad_sizes [] d)

-- 1, open (tag, extractor's row)
unfoldable pub open_done : List ℕ → Desk → Done
open_done script d = after_open (open_job_of d.dispatcher d.rows d.channels (tag_at script 3) (byte_at script 8))

-- 2, close (place)
unfoldable pub close_done : List ℕ → Desk → Done
close_done script d = after_close (close_job_of d.dispatcher d.rows d.channels (byte_at script 3))

-- 3, send (row, slot, tag, a, b)
unfoldable pub send_done : List ℕ → Desk → Done
send_done script d = after_send (slot_send_of d.dispatcher d.rows d.channels (byte_at script 3) (byte_at script 4) (payload_at script))

-- 4, receive (row, slot)
unfoldable pub receive_done : List ℕ → Desk → Done
receive_done script d = after_receive (slot_recv_of d.dispatcher d.rows d.channels (byte_at script 3) (byte_at script 4))

-- 5, park (row, slot, task)
unfoldable pub park_done : List ℕ → Desk → Done
park_done script d = after_park (slot_park_of d.dispatcher d.rows d.channels (byte_at script 3) (byte_at script 4) (task_at script))

-- 6, row (row): its four slots, each as a drain shows it; 19 from 54 up
unfoldable pub row_done : List ℕ → Desk → Done
row_done script d =
    pick (leb 54 (byte_at script 3))
    (done no.bad_row [] d)
    (done no.none (drain_values (row_at d.rows (byte_at script 3)).slots) d)

-- 7, counts: authority, full, state
unfoldable pub counts_done : Desk → Done
counts_done d = done (counts_number (refusals_of d.channels)) (counts_values (refusals_of d.channels)) d

-- ---- by number
-- one above 7 is no operation's
abbrev pub unknown_done : Desk → Done
unknown_done d = done no.bad_op [] d

abbrev pub all_done : List ℕ → Desk → List Done
all_done script d =
    new_done script d ∷
    open_done script d ∷
    close_done script d ∷
    send_done script d ∷
    receive_done script d ∷
    park_done script d ∷
    row_done script d ∷
    counts_done d ∷
    []

unfoldable pub apply_of : ℕ → List ℕ → Desk → Done
apply_of op script d = get_or (all_done script d) op (unknown_done d)
