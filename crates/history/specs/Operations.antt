-- Demand 3's "any sequence of calls", for sequences of the log's operations: what an operation does to the channel table is a run of calls,
-- or, where it is an accepted `new`, a fresh table of sizes in range, from which calls are counted anew. So what holds over every run of
-- calls "from one fresh table" holds in a log from its start or from any accepted `new` up to the next.
use Rattle.std.specs.Prelude.{◌≡◌, Bool, true, ◌&&◌, not, List, [], ◌∷◌, ◌++◌, ℕ, eqb, get_or}
use Rattle.laws.specs.Pick.{pick}
use Rattle.capslots.specs.Table.{Shape}
use Rattle.ipc_rules.specs.State.{sizes_of}
use Rattle.ipc_rules.specs.Make.{in_range}
use Rattle.logread.specs.Little.{byte_at}
use Rattle.logread.specs.Lists.{list_slots, list_words}
use Rattle.operations.specs.Apply.{apply_of}
use Rattle.operations.specs.Channels.{all_fresh}
use Rattle.operations.specs.Done.{Done}
use Rattle.operations.specs.Operands.{id_at, task_at, payload_at, sizes_at}
use Rattle.operations.specs.declared.Tables.{Tables}
use Rattle.history.specs.Calls.{Call, create, send, receive, park, queued, revoke, register, releasing, holders, clear, note_authority, note_state, counts}
use Rattle.history.specs.World.{World, run, start, Reached}
use Rattle.history.specs.Joined.{spawn_calls, leave_calls, give_calls}

-- an operation by its number, with the log from the start of its record
pub record Operation : Type 0 where
  pub number : ℕ
  pub bytes : List ℕ

-- what it comes to
abbrev pub done_by : Operation → Tables → Done
done_by o t = apply_of o.number o.bytes t

-- ---- the calls on the channel table
-- of each operation, in the order of their numbers: `new`, rows and mints make none, nor does a refused joined step
abbrev pub all_calls : List ℕ → Tables → List (List Call)
all_calls log t =
    [] ∷
    (create (not (eqb (byte_at log 3) 0)) ∷ []) ∷
    (send (id_at log 3) (payload_at log 7) (byte_at log 27) ∷ []) ∷
    (receive (id_at log 3) ∷ []) ∷
    (park (id_at log 3) (task_at log 7) ∷ []) ∷
    (queued (id_at log 3) ∷ []) ∷
    (revoke (id_at log 3) ∷ []) ∷
    (register (list_words log 3) ∷ []) ∷
    (releasing (list_slots log 3) ∷ []) ∷
    (holders (id_at log 3) ∷ []) ∷
    (clear (task_at log 3) ∷ []) ∷
    (note_authority ∷ []) ∷
    (note_state ∷ []) ∷
    [] ∷
    [] ∷
    [] ∷
    [] ∷
    [] ∷
    [] ∷
    [] ∷
    [] ∷
    [] ∷
    [] ∷
    [] ∷
    spawn_calls t.channels t.rows (byte_at log 3) (list_words log 4) ∷
    leave_calls t.channels t.rows (byte_at log 3) ∷
    give_calls t.channels t.rows (byte_at log 3) (byte_at log 4) (id_at log 5) ∷
    (counts ∷ []) ∷
    []

unfoldable pub calls_of : Operation → Tables → List Call
calls_of o t = get_or (all_calls o.bytes t) o.number []

-- ---- sequences
-- 0, new (m, e, d): whether it is accepted
abbrev pub renews : Operation → Bool
renews o = eqb o.number 0 && in_range (sizes_at o.bytes 3)

-- the tables of a log beside the world of their channel table
pub record Logged : Type 0 where
  pub world : World
  pub tables : Tables

-- the world after an operation: one start afresh where it is an accepted `new`, else the run of its calls
unfoldable pub follow : World → Operation → Tables → World
follow w o t = pick (renews o) (start (sizes_at o.bytes 3)) (run w (calls_of o t))

unfoldable pub operate : Logged → Operation → Logged
operate s o = record { world = follow s.world o s.tables; tables = (done_by o s.tables).tables }

unfoldable pub operated : Logged → List Operation → Logged
operated s [] = s
operated s (o ∷ os) = operated (operate s o) os

-- replay starts with sizes 32, 64, 8
abbrev pub beginning : Logged
beginning = record { world = start (sizes_of 32 64 8); tables = all_fresh 32 64 8 }

-- ---- the channel table of a log is that of a world reached by calls from one fresh table
pub record Follows (s : Logged) : Type 0 where
  pub reached : Reached s.world
  pub channels : s.world.table ≡ s.tables.channels
  pub rows : Shape s.tables.rows

abbrev pub OperationsFollow : Type 0
OperationsFollow = (s : Logged) (o : Operation) → Follows s → Follows (operate s o)

-- at any time of a log, from its start on
abbrev pub LogsFollow : Type 0
LogsFollow = (os : List Operation) → Follows (operated beginning os)

-- and as long as no `new` is accepted, it is one run
unfoldable pub lasting : List Operation → Bool
lasting [] = true
lasting (o ∷ os) = not (renews o) && lasting os

unfoldable pub calls_over : Logged → List Operation → List Call
calls_over s [] = []
calls_over s (o ∷ os) = calls_of o s.tables ++ calls_over (operate s o) os

abbrev pub OperationsRun : Type 0
OperationsRun = (s : Logged) (os : List Operation) → lasting os ≡ true → (operated s os).world ≡ run s.world (calls_over s os)
