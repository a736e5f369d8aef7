-- Change request No. 3: "The state count is raised from then on by Busy and by the note call only." Over any run of calls its change is
-- told exactly: one more for each answer that was Busy and for each state refusal that was noted, up to 4,294,967,295. Operation 27 of a
-- log shows it.
use Rattle.std.specs.Prelude.{◌≡◌, Bool, true, false, ◌&&◌, ◌||◌, List, [], ◌∷◌, ℕ, ◌+◌, ◌≤◌, eqb, ltb}
use Rattle.laws.specs.Pick.{pick}
use Rattle.laws.specs.Refusals as no
use Rattle.ipc_rules.specs.State.{counts_of}
use Rattle.ipc_rules.specs.Sound.{Sound}
use Rattle.history.specs.Calls.{Call, create, send, receive, park, queued, revoke, register, release, holders, clear, note_authority, note_state, counts, answer}
use Rattle.history.specs.Numbers.{number_of}
use Rattle.history.specs.World.{World, step, run}
use Rattle.history.specs.Operations.{Operation, done_by, Logged, operate, operated, beginning, lasting}
use Rattle.history.specs.Lines.{line_in}

-- ---- by call
-- the call notes a state refusal
unfoldable pub notes_state : Call → Bool
notes_state (create ephemeral) = false
notes_state (send c p row) = false
notes_state (receive c) = false
notes_state (park c task) = false
notes_state (queued c) = false
notes_state (revoke c) = false
notes_state (register words) = false
notes_state (release x y z v) = false
notes_state (holders c) = false
notes_state (clear task) = false
notes_state note_authority = false
notes_state note_state = true
notes_state counts = false

-- as 1 or 0: the call, answered n, was Busy or a note of a state refusal
unfoldable pub state_refusal : Call → ℕ → ℕ
state_refusal c n = pick (notes_state c || eqb n no.busy) 1 0

-- ---- by run
-- how many of the calls were
unfoldable pub state_refusals : World → List Call → ℕ
state_refusals w [] = 0
state_refusals w (c ∷ cs) = state_refusal c (number_of (answer w.table c)) + state_refusals (step w c) cs

-- n, or 4,294,967,295 where n is more
unfoldable pub up_to_most : ℕ → ℕ
up_to_most n = pick (ltb n 4294967295) n 4294967295

abbrev pub state_count : World → ℕ
state_count w = (counts_of w.table).state

-- from any sound table, whose count fits its 32 bits
abbrev pub StateCountTold : Type 0
StateCountTold =
    (w : World) → Sound w.table → state_count w ≤ 4294967295 → (calls : List Call) →
    state_count (run w calls) ≡ up_to_most (state_count w + state_refusals w calls)

-- ---- in a log
-- as 1 or 0: a line that begins with an operation and its number is that of a state note, `12 0`, or of a park that was Busy, `4 4`
unfoldable pub state_line : ℕ → ℕ → ℕ
state_line op n = pick (eqb op 12 && eqb n no.none || eqb op 4 && eqb n no.busy) 1 0

-- how many of the operations' lines are
unfoldable pub state_lines : Logged → List Operation → ℕ
state_lines s [] = 0
state_lines s (o ∷ os) = state_line o.number (done_by o s.tables).number + state_lines (operate s o) os

-- 27, counts
abbrev pub counting : List ℕ → Operation
counting log = record { number = 27; bytes = log }

-- between two places of a log with no accepted `new` between them, a record of operation 27 at the later one shows the state count of the
-- earlier one and one more for each such line
abbrev pub StateCountShown : Type 0
StateCountShown =
    (before : List Operation) → let s = operated beginning before in
    (later : List Operation) → lasting later ≡ true → let v = operated s later in
    (log : List ℕ) → line_in v (counting log)
    ≡ 27 ∷ no.none ∷ (counts_of v.tables.channels).authority ∷ (counts_of v.tables.channels).full
    ∷ up_to_most ((counts_of s.tables.channels).state + state_lines s later) ∷ []
