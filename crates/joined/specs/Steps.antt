-- Document 01, "Rows and binding", joined steps: spawn, leave and give on a row and the channels together, spawn as change request No. 1
-- has it. A refused step changes neither table.
use Rattle.std.specs.Prelude.{List, [], ℕ, leb, Err, Ok, Result, ⊤}
use Rattle.laws.specs.Pick.{pick}
use Rattle.cap.specs.Slot.{holding}
use Rattle.cap.specs.Word.{words_read}
use Rattle.cap.specs.declared.CapId.{CapId}
use Rattle.capslots.specs.Rows.{seed_of, drain_of, install_of}
use Rattle.capslots.specs.Table.{row_at}
use Rattle.capslots.specs.declared.Table.{Table as Rows}
use Rattle.ipc_rules.specs.Holds.{registered, registered_all, release_of, four_of}
use Rattle.ipc_rules.specs.declared.state.Table.{Table as Channels}
use Rattle.ipc_rules.specs.declared.state.Waiter.{Waiter}
use Rattle.joined.specs.declared.answers.Spawning.{Spawning}
use Rattle.joined.specs.declared.answers.SpawnError.TheVariants as spawn
use Rattle.joined.specs.declared.answers.Leaving.{Leaving}
use Rattle.joined.specs.declared.answers.LeaveError.TheVariants as leave
use Rattle.joined.specs.declared.answers.Giving.{Giving}
use Rattle.joined.specs.declared.answers.GiveError.TheVariants as give
use Rattle.capslots.specs.declared.answers.InstallError.{InstallError}
use Rattle.joined.specs.declared.answers.SpawnError.{SpawnError}
use Rattle.joined.specs.declared.answers.LeaveError.{LeaveError}
use Rattle.joined.specs.declared.answers.GiveError.{GiveError}

-- ---- a row let go: what leave does, and what spawn does first
-- the waiters that this takes out, and both tables afterwards
pub record Vacated : Type 0 where
  pub waiters : List Waiter
  pub channels : Channels
  pub rows : Rows

-- the row is drained and its four are released in slot order; waiters as a release answers them
abbrev pub vacated : Channels → Rows → ℕ → Vacated
vacated channels rows r =
    record {
      waiters = (release_of channels (drain_of rows r).slots).waiters;
      channels = (release_of channels (drain_of rows r).slots).table;
      rows = (drain_of rows r).table;
    }

-- ---- spawn
-- a refused spawn wakes nobody
abbrev pub spawn_refused : Result ⊤ SpawnError → Channels → Rows → Spawning
spawn_refused a channels rows = record { answer = a; waiters = four_of []; channels = channels; rows = rows }

-- spawn lets go of the row, seeds it, then registers the ids that are now in the row, in slot order, and no others
abbrev pub spawned : Channels → Rows → ℕ → List ℕ → Spawning
spawned channels rows r words =
    let gone = vacated channels rows r in
    let seeded = (seed_of gone.rows r words).table in
    record {
      answer = Ok tt;
      waiters = gone.waiters;
      channels = registered_all gone.channels (row_at seeded r).slots;
      rows = seeded;
    }

-- a list with a word that does not read, also past the fourth, is refused before all else (21), then a row from 54 up (19)
unfoldable pub spawn_of : Channels → Rows → ℕ → List ℕ → Spawning
spawn_of channels rows r words =
    pick (words_read words)
    (pick (leb 54 r) (spawn_refused (Err spawn.BadRow) channels rows) (spawned channels rows r words))
    (spawn_refused (Err spawn.BadWord) channels rows)

-- ---- leave
-- a refused leave wakes nobody
abbrev pub leave_refused : Result ⊤ LeaveError → Channels → Rows → Leaving
leave_refused a channels rows = record { answer = a; waiters = four_of []; channels = channels; rows = rows }

-- leave lets go of the row
abbrev pub leaves : Channels → Rows → ℕ → Leaving
leaves channels rows r =
    let gone = vacated channels rows r in
    record { answer = Ok tt; waiters = gone.waiters; channels = gone.channels; rows = gone.rows }

-- a row from 54 up is refused (19)
unfoldable pub leave_of : Channels → Rows → ℕ → Leaving
leave_of channels rows r =
    pick (leb 54 r) (leave_refused (Err leave.BadRow) channels rows) (leaves channels rows r)

-- ---- give
-- a refused give
abbrev pub give_refused : Result ⊤ GiveError → Channels → Rows → Giving
give_refused a channels rows = record { answer = a; channels = channels; rows = rows }

-- give installs one id and registers it
abbrev pub gives : Channels → Rows → ℕ → ℕ → CapId → Giving
gives channels rows r s c =
    record { answer = Ok tt; channels = registered channels (holding c); rows = (install_of rows r s c).table }

-- what follows from an install: one thing where it is refused, another where it succeeds
unfoldable pub installs : {A : Type 0} → Result ⊤ InstallError → A → A → A
installs (Err e) refused done = refused
installs (Ok x) refused done = done

-- where the install is refused, for a bad row, a bad slot or an occupied one, so is the give (10)
unfoldable pub give_of : Channels → Rows → ℕ → ℕ → CapId → Giving
give_of channels rows r s c =
    installs (install_of rows r s c).answer (give_refused (Err give.BadSlot) channels rows) (gives channels rows r s c)
