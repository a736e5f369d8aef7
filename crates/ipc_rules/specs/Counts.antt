-- Document 01, "Every no, by number": the three refusal counts, each raised by its refusals alone, stopping at 4,294,967,295.
use Rattle.std.specs.Prelude.{ℕ, ◌+◌, ltb, Ok, Result, ⊤}
use Rattle.laws.specs.Pick.{pick}
use Rattle.ipc_rules.specs.State.{counts_of, with_refusals, with_authority, with_full, with_state}
use Rattle.ipc_rules.specs.declared.state.Refusals.{Refusals}
use Rattle.ipc_rules.specs.declared.state.Table.{Table}
use Rattle.ipc_rules.specs.declared.answers.TableError.{TableError}
use Rattle.shown.specs.declared.Answered.{Answered}

-- one more, and no more than 4,294,967,295
unfoldable pub raised : ℕ → ℕ
raised n = pick (ltb n 4294967295) (n + 1) 4294967295

-- one refusal more of a kind, the other two counts as they were: for want of authority, for want of room, for a state: another task waits there, or so it was noted
abbrev pub authority_noted : Refusals → Refusals
authority_noted x = with_authority x (raised x.authority)

abbrev pub full_noted : Refusals → Refusals
full_noted x = with_full x (raised x.full)

abbrev pub state_noted : Refusals → Refusals
state_noted x = with_state x (raised x.state)

-- a table with that
abbrev pub authority_raised : Table → Table
authority_raised t = with_refusals t (authority_noted (counts_of t))

abbrev pub full_raised : Table → Table
full_raised t = with_refusals t (full_noted (counts_of t))

abbrev pub state_raised : Table → Table
state_raised t = with_refusals t (state_noted (counts_of t))

-- the two note calls
abbrev pub note_authority_of : Table → Answered (Result ⊤ TableError) Table
note_authority_of t = record { answer = Ok tt; table = authority_raised t }

abbrev pub note_state_of : Table → Answered (Result ⊤ TableError) Table
note_state_of t = record { answer = Ok tt; table = state_raised t }
