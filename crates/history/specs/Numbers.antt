-- Document 01, "Every no, by number" and "The operation log": the number of a call's answer, 0 where it is no refusal, and the values
-- that it shows.
use Rattle.std.specs.Prelude.{List, ℕ}
use Rattle.ipc_rules.specs.Answers.{create_number, create_values, send_number, send_values, recv_number, recv_values, park_number, park_values, queued_number, queued_values, revoke_number, revoke_values, register_number, register_values, release_number, release_values, holders_number, holders_values, clear_number, clear_values, note_number, note_values, counts_number, counts_values}
use Rattle.history.specs.Calls.{Answer, created, sent, received, parked, measured, revoked, registered, released, held, cleared, noted, counted}

abbrev pub number_of : Answer → ℕ
number_of (created x) = create_number x
number_of (sent x) = send_number x
number_of (received x) = recv_number x
number_of (parked x) = park_number x
number_of (measured x) = queued_number x
number_of (revoked x) = revoke_number x
number_of (registered x) = register_number x
number_of (released x ws) = release_number x
number_of (held x) = holders_number x
number_of (cleared x) = clear_number x
number_of (noted x) = note_number x
number_of (counted x) = counts_number x

-- "Values on success": a refused call shows none
abbrev pub values_of : Answer → List ℕ
values_of (created x) = create_values x
values_of (sent x) = send_values x
values_of (received x) = recv_values x
values_of (parked x) = park_values x
values_of (measured x) = queued_values x
values_of (revoked x) = revoke_values x
values_of (registered x) = register_values x
values_of (released x ws) = release_values x ws
values_of (held x) = holders_values x
values_of (cleared x) = clear_values x
values_of (noted x) = note_values x
values_of (counted x) = counts_values x
