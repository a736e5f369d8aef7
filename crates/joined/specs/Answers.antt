-- Document 01, "Every no, by number" and "The operation log": the number of each joined step's answer, and the values that it shows.
use Rattle.std.specs.Prelude.{List, ℕ, Result, ⊤}
use Rattle.laws.specs.Refusals as no
use Rattle.shown.specs.Shown.{of_either}
use Rattle.ipc_rules.specs.Answers.{four_waiter_values, done, no_values}
use Rattle.ipc_rules.specs.declared.state.Waiter.{Waiter}
use Rattle.joined.specs.declared.answers.SpawnError.TheVariants as spawn
use Rattle.joined.specs.declared.answers.LeaveError.TheVariants as leave
use Rattle.joined.specs.declared.answers.GiveError.TheVariants as give
use Rattle.joined.specs.declared.answers.SpawnError.{SpawnError}
use Rattle.joined.specs.declared.answers.LeaveError.{LeaveError}
use Rattle.joined.specs.declared.answers.GiveError.{GiveError}

abbrev pub spawn_error_number : SpawnError → ℕ
spawn_error_number spawn.BadWord = no.bad_word
spawn_error_number spawn.BadRow = no.bad_row
spawn_error_number spawn.BadTable = no.bad_table

abbrev pub leave_error_number : LeaveError → ℕ
leave_error_number leave.BadRow = no.bad_row
leave_error_number leave.BadTable = no.bad_table

abbrev pub give_error_number : GiveError → ℕ
give_error_number give.BadSlot = no.bad_slot
give_error_number give.BadTable = no.bad_table

abbrev pub spawn_number : Result ⊤ SpawnError → ℕ
spawn_number = of_either done spawn_error_number

abbrev pub leave_number : Result ⊤ LeaveError → ℕ
leave_number = of_either done leave_error_number

abbrev pub give_number : Result ⊤ GiveError → ℕ
give_number = of_either done give_error_number

-- give shows no values
abbrev pub give_values : Result ⊤ GiveError → List ℕ
give_values = of_either no_values no_values

-- the four waiters stand beside the answers of spawn and leave
abbrev pub spawn_values : Result ⊤ SpawnError → List Waiter → List ℕ
spawn_values a ws = of_either (λ _. four_waiter_values ws) no_values a

abbrev pub leave_values : Result ⊤ LeaveError → List Waiter → List ℕ
leave_values a ws = of_either (λ _. four_waiter_values ws) no_values a
