-- What a spawn and a leave show: no values where they are refused, and never more than twelve. Assumes nothing.
use Rattle.std.specs.Prelude.{Err, Ok, Result, ⊤}
use mathlib.Core.Path.{◌≡◌, refl}
use mathlib.Core.List.{List, []}
use lib.Dec.{lit≤}
use Rattle.shown.proofs.Few.{Few}
use Rattle.ipc_rules.specs.declared.state.Waiter.{Waiter}
use Rattle.ipc_rules.proofs.Few.{waiters_few}
use Rattle.joined.specs.Answers.{spawn_values, leave_values}
use Rattle.joined.specs.declared.answers.SpawnError.TheVariants as spawn
use Rattle.joined.specs.declared.answers.LeaveError.TheVariants as leave
use Rattle.joined.specs.declared.answers.SpawnError.{SpawnError}
use Rattle.joined.specs.declared.answers.LeaveError.{LeaveError}

pub spawn_none : (a : Result ⊤ SpawnError) (ws : List Waiter) → (a ≡ Ok tt → ⊥) → spawn_values a ws ≡ []
spawn_none (Ok tt) ws h = absurd (h refl)
spawn_none (Err spawn.BadWord) ws h = refl
spawn_none (Err spawn.BadRow) ws h = refl
spawn_none (Err spawn.BadTable) ws h = refl

pub spawn_few : (a : Result ⊤ SpawnError) (ws : List Waiter) → Few (spawn_values a ws)
spawn_few (Ok tt) ws = waiters_few ws
spawn_few (Err spawn.BadWord) ws = lit≤ tt
spawn_few (Err spawn.BadRow) ws = lit≤ tt
spawn_few (Err spawn.BadTable) ws = lit≤ tt

pub leave_none : (a : Result ⊤ LeaveError) (ws : List Waiter) → (a ≡ Ok tt → ⊥) → leave_values a ws ≡ []
leave_none (Ok tt) ws h = absurd (h refl)
leave_none (Err leave.BadRow) ws h = refl
leave_none (Err leave.BadTable) ws h = refl

pub leave_few : (a : Result ⊤ LeaveError) (ws : List Waiter) → Few (leave_values a ws)
leave_few (Ok tt) ws = waiters_few ws
leave_few (Err leave.BadRow) ws = lit≤ tt
leave_few (Err leave.BadTable) ws = lit≤ tt
