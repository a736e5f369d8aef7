-- Request No. 5: the number of each answer, and the values that it shows.
use Rattle.std.specs.Prelude.{List, [], ◌∷◌, ℕ, Option, Result, ⊤}
use Rattle.laws.specs.Refusals as no
use Rattle.shown.specs.Shown.{of_either}
use Rattle.ipc_rules.specs.Answers.{done, no_values, waiter_values, send_number, send_values, recv_number, recv_values, park_number, park_values}
use Rattle.dispatcher_rules.specs.declared.answers.MakeError.TheVariants as make
use Rattle.dispatcher_rules.specs.declared.answers.OpenError.TheVariants as opening
use Rattle.dispatcher_rules.specs.declared.answers.CloseError.TheVariants as close
use Rattle.dispatcher_rules.specs.declared.answers.BySlotError.TheVariants as by_slot_error
use Rattle.dispatcher_rules.specs.declared.answers.MakeError.{MakeError}
use Rattle.dispatcher_rules.specs.declared.answers.OpenedJob.{OpenedJob}
use Rattle.dispatcher_rules.specs.declared.answers.OpenError.{OpenError}
use Rattle.ipc_rules.specs.declared.state.Waiter.{Waiter}
use Rattle.dispatcher_rules.specs.declared.answers.CloseError.{CloseError}
use Rattle.ipc_rules.specs.declared.answers.SendError.{SendError}
use Rattle.dispatcher_rules.specs.declared.answers.BySlotError.{BySlotError}
use Rattle.ipc_rules.specs.declared.state.Message.{Message}
use Rattle.ipc_rules.specs.declared.answers.RecvError.{RecvError}
use Rattle.ipc_rules.specs.declared.answers.ParkError.{ParkError}

abbrev pub make_error_number : MakeError → ℕ
make_error_number make.BadVariants = no.bad_variants

abbrev pub open_error_number : OpenError → ℕ
open_error_number opening.NoVariant = no.no_variant
open_error_number opening.BadRow = no.bad_row
open_error_number opening.JobsFull = no.jobs_full
open_error_number opening.NoMailbox = no.no_mailbox
open_error_number opening.NoEndpoint = no.no_endpoint
open_error_number opening.BadSlot = no.bad_slot
open_error_number opening.BadTable = no.bad_table

abbrev pub close_error_number : CloseError → ℕ
close_error_number close.NoJob = no.no_job
close_error_number close.BadTable = no.bad_table

abbrev pub make_number : Result ⊤ MakeError → ℕ
make_number = of_either done make_error_number

abbrev pub make_values : Result ⊤ MakeError → List ℕ
make_values = of_either no_values no_values

abbrev pub open_number : Result OpenedJob OpenError → ℕ
open_number = of_either done open_error_number

-- place, send id, receive id
abbrev pub opened_values : OpenedJob → List ℕ
opened_values j = j.place ∷ j.send.raw ∷ j.recv.raw ∷ []

abbrev pub open_values : Result OpenedJob OpenError → List ℕ
open_values = of_either opened_values no_values

abbrev pub close_number : Result Waiter CloseError → ℕ
close_number = of_either done close_error_number

abbrev pub close_values : Result Waiter CloseError → List ℕ
close_values = of_either waiter_values no_values

-- ---- by row and slot: the channel table's own number and values, or those of the slot's refusal
abbrev pub by_slot_number : BySlotError → ℕ
by_slot_number (by_slot_error.OutOfRange s n) = no.out_of_range
by_slot_number (by_slot_error.Vacant s) = no.vacant
by_slot_number by_slot_error.BadTable = no.bad_table

abbrev pub by_slot_values : BySlotError → List ℕ
by_slot_values (by_slot_error.OutOfRange s n) = s ∷ n ∷ []
by_slot_values (by_slot_error.Vacant s) = s ∷ []
by_slot_values by_slot_error.BadTable = []

abbrev pub slot_send_number : Result (Result Waiter SendError) BySlotError → ℕ
slot_send_number = of_either send_number by_slot_number

abbrev pub slot_send_values : Result (Result Waiter SendError) BySlotError → List ℕ
slot_send_values = of_either send_values by_slot_values

abbrev pub slot_recv_number : Result (Result Message RecvError) BySlotError → ℕ
slot_recv_number = of_either recv_number by_slot_number

abbrev pub slot_recv_values : Result (Result Message RecvError) BySlotError → List ℕ
slot_recv_values = of_either recv_values by_slot_values

abbrev pub slot_park_number : Result (Result (Option Message) ParkError) BySlotError → ℕ
slot_park_number = of_either park_number by_slot_number

abbrev pub slot_park_values : Result (Result (Option Message) ParkError) BySlotError → List ℕ
slot_park_values = of_either park_values by_slot_values
