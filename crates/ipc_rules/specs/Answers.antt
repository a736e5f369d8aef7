-- Document 01, "Every no, by number" and "The operation log": the number of each answer, and the values that it shows.
use Rattle.std.specs.Prelude.{List, [], ◌∷◌, ◌++◌, ℕ, get_or, Option, Some, None, Result, Ok, Err, ⊤}
use Rattle.laws.specs.Pick.{pick}
use Rattle.laws.specs.Refusals as no
use Rattle.shown.specs.Shown.{of_either}
use Rattle.ipc_rules.specs.State.{nobody}
use Rattle.ipc_rules.specs.declared.state.Message.{Message}
use Rattle.ipc_rules.specs.declared.state.Waiter.{Waiter}
use Rattle.ipc_rules.specs.declared.state.Channel.{Channel}
use Rattle.ipc_rules.specs.declared.state.Refusals.{Refusals}
use Rattle.ipc_rules.specs.declared.answers.NewError.{NewError}
use Rattle.ipc_rules.specs.declared.answers.NewError.TheVariants as new
use Rattle.ipc_rules.specs.declared.answers.CreateError.{CreateError}
use Rattle.ipc_rules.specs.declared.answers.CreateError.TheVariants as create
use Rattle.ipc_rules.specs.declared.answers.SendError.{SendError}
use Rattle.ipc_rules.specs.declared.answers.SendError.TheVariants as send
use Rattle.ipc_rules.specs.declared.answers.RecvError.{RecvError}
use Rattle.ipc_rules.specs.declared.answers.RecvError.TheVariants as recv
use Rattle.ipc_rules.specs.declared.answers.ParkError.{ParkError}
use Rattle.ipc_rules.specs.declared.answers.ParkError.TheVariants as park
use Rattle.ipc_rules.specs.declared.answers.CapError.{CapError}
use Rattle.ipc_rules.specs.declared.answers.CapError.TheVariants as cap
use Rattle.ipc_rules.specs.declared.answers.RegisterError.{RegisterError}
use Rattle.ipc_rules.specs.declared.answers.RegisterError.TheVariants as register
use Rattle.ipc_rules.specs.declared.answers.TableError.{TableError}
use Rattle.ipc_rules.specs.declared.answers.TableError.TheVariants as table

-- ---- values that several answers show
-- tag, a, b, and the sending row last
abbrev pub message_values : Message → List ℕ
message_values m = m.tag ∷ m.a ∷ m.b ∷ m.row ∷ []

-- `0`, or `1 slot epoch`
unfoldable pub waiter_values : Waiter → List ℕ
waiter_values w = pick w.present (1 ∷ w.task.slot ∷ w.task.epoch ∷ []) (0 ∷ [])

-- four times that
abbrev pub four_waiter_values : List Waiter → List ℕ
four_waiter_values ws = waiter_values (get_or ws 0 nobody) ++ waiter_values (get_or ws 1 nobody) ++ waiter_values (get_or ws 2 nobody) ++ waiter_values (get_or ws 3 nobody)

-- `0`, or `1 tag a b row`
abbrev pub optional_message_values : Option Message → List ℕ
optional_message_values None = 0 ∷ []
optional_message_values (Some m) = 1 ∷ message_values m

abbrev pub channel_values : Channel → List ℕ
channel_values c = c.send.raw ∷ c.recv.raw ∷ []

abbrev pub refusals_values : Refusals → List ℕ
refusals_values r = r.authority ∷ r.full ∷ r.state ∷ []

-- a refusal shows no values
abbrev pub no_values : {E : Type 0} → E → List ℕ
no_values e = []

-- ---- the number of each refusal
abbrev pub new_error_number : NewError → ℕ
new_error_number new.BadSizes = no.bad_sizes

abbrev pub create_error_number : CreateError → ℕ
create_error_number create.NoMailbox = no.no_mailbox
create_error_number create.NoEndpoint = no.no_endpoint
create_error_number create.BadTable = no.bad_table

abbrev pub send_error_number : SendError → ℕ
send_error_number send.BadRow = no.bad_row
send_error_number send.BadCap = no.bad_cap
send_error_number send.Full = no.full
send_error_number send.BadTable = no.bad_table

abbrev pub recv_error_number : RecvError → ℕ
recv_error_number recv.BadCap = no.bad_cap
recv_error_number recv.Empty = no.empty
recv_error_number recv.BadTable = no.bad_table

abbrev pub park_error_number : ParkError → ℕ
park_error_number park.BadCap = no.bad_cap
park_error_number park.Busy = no.busy
park_error_number park.Cancelled = no.cancelled
park_error_number park.BadTable = no.bad_table

abbrev pub cap_error_number : CapError → ℕ
cap_error_number cap.BadCap = no.bad_cap
cap_error_number cap.BadTable = no.bad_table

abbrev pub register_error_number : RegisterError → ℕ
register_error_number register.BadWord = no.bad_word
register_error_number register.BadTable = no.bad_table

abbrev pub table_error_number : TableError → ℕ
table_error_number table.BadTable = no.bad_table

-- ---- numbers and values, by call: 0 where it is done, else its refusal's
abbrev pub done : {T : Type 0} → T → ℕ
done x = no.none

abbrev pub new_number : Result ⊤ NewError → ℕ
new_number = of_either done new_error_number

abbrev pub new_values : Result ⊤ NewError → List ℕ
new_values = of_either no_values no_values

abbrev pub create_number : Result Channel CreateError → ℕ
create_number = of_either done create_error_number

abbrev pub create_values : Result Channel CreateError → List ℕ
create_values = of_either channel_values no_values

abbrev pub send_number : Result Waiter SendError → ℕ
send_number = of_either done send_error_number

abbrev pub send_values : Result Waiter SendError → List ℕ
send_values = of_either waiter_values no_values

abbrev pub recv_number : Result Message RecvError → ℕ
recv_number = of_either done recv_error_number

abbrev pub recv_values : Result Message RecvError → List ℕ
recv_values = of_either message_values no_values

abbrev pub park_number : Result (Option Message) ParkError → ℕ
park_number = of_either done park_error_number

abbrev pub park_values : Result (Option Message) ParkError → List ℕ
park_values = of_either optional_message_values no_values

abbrev pub queued_number : Result ℕ CapError → ℕ
queued_number = of_either done cap_error_number

abbrev pub queued_values : Result ℕ CapError → List ℕ
queued_values = of_either (λ n. n ∷ []) no_values

abbrev pub holders_number : Result ℕ CapError → ℕ
holders_number = of_either done cap_error_number

abbrev pub holders_values : Result ℕ CapError → List ℕ
holders_values = of_either (λ n. n ∷ []) no_values

abbrev pub register_number : Result ⊤ RegisterError → ℕ
register_number = of_either done register_error_number

abbrev pub register_values : Result ⊤ RegisterError → List ℕ
register_values = of_either no_values no_values

abbrev pub release_number : Result ⊤ TableError → ℕ
release_number = of_either done table_error_number

-- the four waiters stand beside the answer
abbrev pub release_values : Result ⊤ TableError → List Waiter → List ℕ
release_values a ws = of_either (λ x. four_waiter_values ws) no_values a

abbrev pub revoke_number : Result Waiter CapError → ℕ
revoke_number = of_either done cap_error_number

abbrev pub revoke_values : Result Waiter CapError → List ℕ
revoke_values = of_either waiter_values no_values

abbrev pub clear_number : Result ℕ TableError → ℕ
clear_number = of_either done table_error_number

abbrev pub clear_values : Result ℕ TableError → List ℕ
clear_values = of_either (λ n. n ∷ []) no_values

abbrev pub note_number : Result ⊤ TableError → ℕ
note_number = of_either done table_error_number

abbrev pub note_values : Result ⊤ TableError → List ℕ
note_values = of_either no_values no_values

abbrev pub counts_number : Result Refusals TableError → ℕ
counts_number = of_either done table_error_number

abbrev pub counts_values : Result Refusals TableError → List ℕ
counts_values = of_either refusals_values no_values
