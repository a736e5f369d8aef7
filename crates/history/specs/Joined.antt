-- Demand 3 speaks of "any sequence of calls". The joined steps are such sequences: "leave drains a row and releases its four; give installs
-- one id and, on success, registers it" (document 01); "spawn must first release what the row held, then seed, then register only the ids
-- that are now in the row" (change request No. 1). What each does to the channel table, the calls here do; what holds over every run of
-- calls holds over runs with joined steps in them. So a spawn's release counts as one, whatever its register then raises.
use Rattle.std.specs.Prelude.{◌≡◌, List, [], ◌∷◌, ℕ, ◌<◌, eqb, Ok}
use Rattle.laws.specs.Pick.{pick}
use Rattle.laws.specs.Refusals as no
use Rattle.cap.specs.Slot.{holding}
use Rattle.cap.specs.Word.{word_of}
use Rattle.cap.specs.declared.CapId.{CapId}
use Rattle.capslots.specs.Rows.{drain_of}
use Rattle.capslots.specs.Table.{row_at, Shape}
use Rattle.capslots.specs.declared.Table.{Table as Rows}
use Rattle.ipc_rules.specs.declared.state.Table.{Table}
use Rattle.joined.specs.Answers.{spawn_number, leave_number, give_number}
use Rattle.joined.specs.Steps.{spawn_of, leave_of, give_of}
use Rattle.history.specs.Calls.{Call, register, releasing, registered, released, answer}
use Rattle.history.specs.World.{World, run, Reached}
use Rattle.history.specs.Lent.{lending}

-- ---- the calls
-- a step that is refused with a number makes none
unfoldable pub if_accepted : ℕ → List Call → List Call
if_accepted n calls = pick (eqb n no.none) calls []

-- the register of one id
abbrev pub registering : CapId → Call
registering c = register (word_of (holding c) ∷ [])

-- the register of the ids that a spawn leaves in the row
abbrev pub filling : Table → Rows → ℕ → List ℕ → Call
filling t rows r words = lending (row_at (spawn_of t rows r words).rows r).slots

-- one release and one register
unfoldable pub spawn_calls : Table → Rows → ℕ → List ℕ → List Call
spawn_calls t rows r words =
    if_accepted (spawn_number (spawn_of t rows r words).answer) (releasing (drain_of rows r).slots ∷ filling t rows r words ∷ [])

unfoldable pub leave_calls : Table → Rows → ℕ → List Call
leave_calls t rows r = if_accepted (leave_number (leave_of t rows r).answer) (releasing (drain_of rows r).slots ∷ [])

unfoldable pub give_calls : Table → Rows → ℕ → ℕ → CapId → List Call
give_calls t rows r s c = if_accepted (give_number (give_of t rows r s c).answer) (registering c ∷ [])

-- ---- the channel table after each step is the one after its calls
pub record JoinedRun (w : World) (rows : Rows) : Type 0 where
  pub spawn : (r : ℕ) (words : List ℕ) → (run w (spawn_calls w.table rows r words)).table ≡ (spawn_of w.table rows r words).channels
  pub leave : (r : ℕ) → (run w (leave_calls w.table rows r)).table ≡ (leave_of w.table rows r).channels
  pub give : (r s : ℕ) (c : CapId) → (run w (give_calls w.table rows r s c)).table ≡ (give_of w.table rows r s c).channels

abbrev pub JoinedRuns : Type 0
JoinedRuns = (w : World) → Reached w → (rows : Rows) → Shape rows → JoinedRun w rows

-- ---- and what a step that succeeds answers of the channels is what its calls answer: spawn's four waiters are the release's, as leave's are
pub record SpawnTold (t : Table) (rows : Rows) (r : ℕ) (words : List ℕ) : Type 0 where
  pub first : answer t (releasing (drain_of rows r).slots) ≡ released (Ok tt) (spawn_of t rows r words).waiters
  pub then : (u : Table) → answer u (filling t rows r words) ≡ registered (Ok tt)

pub record JoinedTold (t : Table) (rows : Rows) : Type 0 where
  pub spawn : (r : ℕ) (words : List ℕ) → (spawn_of t rows r words).answer ≡ Ok tt → SpawnTold t rows r words
  pub leave : (r : ℕ) → (leave_of t rows r).answer ≡ Ok tt → answer t (releasing (drain_of rows r).slots) ≡ released (Ok tt) (leave_of t rows r).waiters
  -- an id has 32 bits
  pub give : (r s : ℕ) (c : CapId) → c.raw < 4294967296 → (give_of t rows r s c).answer ≡ Ok tt → answer t (registering c) ≡ registered (Ok tt)

abbrev pub JoinedTell : Type 0
JoinedTell = (t : Table) (rows : Rows) → Shape rows → JoinedTold t rows
