-- Document 01, refusal 27: a joined step that is lent an unsound channel table refuses it first of all, and gives both tables back as
-- they were.
use Rattle.std.specs.Prelude.{List, ℕ, Err}
use Rattle.cap.specs.declared.CapId.{CapId}
use Rattle.capslots.specs.declared.Table.{Table as Rows}
use Rattle.ipc_sound.specs.Border.{guarded}
use Rattle.ipc_rules.specs.declared.state.Table.{Table as Channels}
use Rattle.joined.specs.Steps.{spawn_refused, spawn_of, leave_refused, leave_of, give_refused, give_of}
use Rattle.joined.specs.declared.answers.Spawning.{Spawning}
use Rattle.joined.specs.declared.answers.SpawnError.TheVariants as spawn
use Rattle.joined.specs.declared.answers.Leaving.{Leaving}
use Rattle.joined.specs.declared.answers.LeaveError.TheVariants as leave
use Rattle.joined.specs.declared.answers.Giving.{Giving}
use Rattle.joined.specs.declared.answers.GiveError.TheVariants as give

abbrev pub spawn_call : Channels → Rows → ℕ → List ℕ → Spawning
spawn_call channels rows r words =
    guarded channels (spawn_refused (Err spawn.BadTable) channels rows) (spawn_of channels rows r words)

abbrev pub leave_call : Channels → Rows → ℕ → Leaving
leave_call channels rows r = guarded channels (leave_refused (Err leave.BadTable) channels rows) (leave_of channels rows r)

abbrev pub give_call : Channels → Rows → ℕ → ℕ → CapId → Giving
give_call channels rows r s c =
    guarded channels (give_refused (Err give.BadTable) channels rows) (give_of channels rows r s c)
