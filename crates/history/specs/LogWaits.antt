-- Demand 3's sentences on waits in a log: "A parked task is named by the first later accepted send on its channel, its revocation, or, if
-- ephemeral, the release that leaves no send hold, whichever comes first, unless a clearing of that task comes sooner. Nothing else ends
-- the wait." The task is one of a park whose line shows `0`; the later calls are those of the operations that follow, up to the next accepted
-- `new`: the release may be one of a leave, or of a spawn, and then it counts as one even where the spawn's register raises the holds
-- again at once; and the line of the operation whose call ends the wait names the task.
use Rattle.std.specs.Prelude.{◌≡◌, true, List, [], ◌∷◌, ◌++◌, ◌⊎◌, ℕ, ◌≤◌}
use Rattle.laws.specs.Refusals as no
use Rattle.cap.specs.Rights.{receive_right}
use Rattle.capslots.specs.Rows.{drain_of}
use Rattle.ipc_rules.specs.Opening.{opening_of}
use Rattle.ipc_rules.specs.Views.{hold_count, ephemeral_of, held_in}
use Rattle.ipc_rules.specs.declared.state.TaskId.{TaskId}
use Rattle.ipc_rules.specs.declared.opening.Opening.TheVariants.{Opens}
use Rattle.logread.specs.Little.{byte_at}
use Rattle.operations.specs.Operands.{id_at, task_at}
use Rattle.history.specs.Waits.{Waits, Quiet, First}
use Rattle.history.specs.Operations.{Operation, done_by, calls_of, Logged, operate, operated, beginning, lasting, calls_over}
use Rattle.history.specs.Lines.{line_in, NamesTask, ClearsTask}

-- 4, park
abbrev pub parking : List ℕ → Operation
parking log = record { number = 4; bytes = log }

-- ---- which comes first
-- the first operation of a log that makes a call which ends the wait
pub record FirstIn (v : Logged) (n k : ℕ) (x : TaskId) (later : List Operation) : Type 0 where
  pub before : List Operation
  pub operation : Operation
  pub behind : List Operation
  pub split : later ≡ before ++ (operation ∷ behind)
  pub quiet : Quiet v.world n k x (calls_over v before)
  pub ender : let u = operated v before in First u.world n k x (calls_of operation u.tables)

-- its line names x, or it is a clearing of x; and x waits on channel n no more
pub record EndedIn (u : Logged) (n k : ℕ) (x : TaskId) (o : Operation) : Type 0 where
  pub named : NamesTask u.tables o.bytes k x (line_in u o) ⊎ ClearsTask o.bytes x (line_in u o)
  pub over : (j : ℕ) → Waits (operate u o).world n j x → ⊥

-- ---- what becomes of a wait
-- no operation ends it and the task waits on, or the first that does names or clears it
pub data FateIn (v : Logged) (n k : ℕ) (x : TaskId) (later : List Operation) : Type 0 where
  waits : Quiet v.world n k x (calls_over v later) → Waits (operated v later).world n k x → FateIn v n k x later
  ended : (f : FirstIn v n k x later) → EndedIn (operated v f.before) n k x f.operation → FateIn v n k x later

-- the task of a park waits on the channel that the park's id opens, with the fate that the demand gives it
pub record NamedInLog (s : Logged) (log : List ℕ) : Type 0 where
  pub number : ℕ
  pub box : ℕ
  pub opens : opening_of s.world.table (id_at log 3) receive_right ≡ Opens box
  pub is : number ≡ s.world.tenant box
  pub waits : Waits (operate s (parking log)).world number box (task_at log 7)
  pub fate : (later : List Operation) → lasting later ≡ true → FateIn (operate s (parking log)) number box (task_at log 7) later

abbrev pub LogWaitsNamed : Type 0
LogWaitsNamed =
    (before : List Operation) → let s = operated beginning before in
    (log : List ℕ) → line_in s (parking log) ≡ 4 ∷ no.none ∷ 0 ∷ [] → NamedInLog s log

-- ---- the release of a spawn
-- 24, spawn
abbrev pub spawning : List ℕ → Operation
spawning log = record { number = 24; bytes = log }

-- its line names x, and x waits on channel n no more
pub record NamedBySpawn (s : Logged) (n k : ℕ) (x : TaskId) (log : List ℕ) : Type 0 where
  pub named : NamesTask s.tables log k x (line_in s (spawning log))
  pub over : (j : ℕ) → Waits (operate s (spawning log)).world n j x → ⊥

-- change request No. 1, "for demand 3 that release counts as one, even if the registering then raises the holds again": a task that waits
-- on an ephemeral channel, of whose send holds all stand in one row, is named by an accepted spawn of that row, whatever its list is
abbrev pub SpawnsName : Type 0
SpawnsName =
    (before : List Operation) → let s = operated beginning before in
    (n k : ℕ) (x : TaskId) → Waits s.world n k x → ephemeral_of s.world.table k ≡ true →
    (log : List ℕ) → hold_count s.world.table k ≤ held_in s.world.table k (drain_of s.tables.rows (byte_at log 3)).slots →
    (done_by (spawning log) s.tables).number ≡ no.none → NamedBySpawn s n k x log
