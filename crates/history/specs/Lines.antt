-- Document 01, "The operation log": the line of a record, behind the record's number, and what it says of the calls that the operation
-- makes. An operation may make any number of them: the statements go over the list, `calls_of`.
use Rattle.std.specs.Prelude.{◌≡◌, ℕ, ◌<◌, eqb, get_or}
use mathlib.Core.List.{List, [], ◌∷◌, ◌++◌, Memᴰ}
use Rattle.laws.specs.Pick.{pick}
use Rattle.laws.specs.Refusals as no
use Rattle.capslots.specs.Rows.{drain_of}
use Rattle.ipc_rules.specs.State.{nobody, waiting}
use Rattle.ipc_rules.specs.Answers.{four_waiter_values}
use Rattle.ipc_rules.specs.Why.{why_of, why_values}
use Rattle.ipc_rules.specs.declared.state.Message.{Message}
use Rattle.ipc_rules.specs.declared.state.TaskId.{TaskId}
use Rattle.ipc_rules.specs.declared.state.Waiter.{Waiter}
use Rattle.ipc_rules.specs.declared.opening.Asked.TheVariants.{Send, Receive, Either}
use Rattle.logread.specs.Little.{byte_at}
use Rattle.logread.specs.Lists.{list_slots}
use Rattle.operations.specs.Done.{Done}
use Rattle.operations.specs.Operands.{id_at, task_at}
use Rattle.operations.specs.declared.Tables.{Tables}
use Rattle.history.specs.Calls.{Call, Answer}
use Rattle.history.specs.Numbers.{number_of, values_of}
use Rattle.history.specs.World.{World, answers}
use Rattle.history.specs.Traffic.{all_given}
use Rattle.history.specs.Waits.{turn_of}
use Rattle.history.specs.Operations.{Operation, done_by, calls_of, Logged, Follows}

-- the operation, 0 or its refusal's number, and the values
abbrev pub line_in : Logged → Operation → List ℕ
line_in s o = o.number ∷ (done_by o s.tables).number ∷ (done_by o s.tables).values

-- ---- the reason
-- request No. 6, "the reason, 1 to 4, only ends the replay lines on which send, receive, park or `queued` prints BadCap": what stands behind the
-- BadCap of each operation, in the order of their numbers; from 6 up nothing does
abbrev pub all_reasons : List ℕ → Tables → List (List ℕ)
all_reasons log t =
    [] ∷
    [] ∷
    why_values (why_of t.channels (id_at log 3) Send) ∷
    why_values (why_of t.channels (id_at log 3) Receive) ∷
    why_values (why_of t.channels (id_at log 3) Receive) ∷
    why_values (why_of t.channels (id_at log 3) Either) ∷
    []

unfoldable pub reason_of : Operation → Tables → List ℕ
reason_of o t = get_or (all_reasons o.bytes t) o.number []

-- ---- every answer
-- the values of answers, one after the other
unfoldable pub all_values : List Answer → List ℕ
all_values [] = []
all_values (a ∷ rest) = values_of a ++ all_values rest

-- the number and the values that it shows are those of the calls' answers, and behind BadCap there is the reason
pub record Tells (w : World) (cs : List Call) (reason : List ℕ) (d : Done) : Type 0 where
  pub number : (a : Answer) → Memᴰ a (answers w cs) → d.number ≡ number_of a
  pub values : d.values ≡ all_values (answers w cs) ++ pick (eqb d.number no.bad_cap) reason []

-- so it is for every operation that makes a call
abbrev pub OperationsTell : Type 0
OperationsTell =
    (s : Logged) → Follows s → (o : Operation) → ((i : ℕ) → byte_at o.bytes i < 256) →
    (c : Call) (cs : List Call) → calls_of o s.tables ≡ c ∷ cs → Tells s.world (c ∷ cs) (reason_of o s.tables) (done_by o s.tables)

-- ---- a message
-- the line shows message m, its stamp last: a receive as `tag a b row`, a park as `1 tag a b row`
pub data ShowsMessage (m : Message) (line : List ℕ) : Type 0 where
  receive_line : line ≡ 3 ∷ no.none ∷ m.tag ∷ m.a ∷ m.b ∷ m.row ∷ [] → ShowsMessage m line
  park_line : line ≡ 4 ∷ no.none ∷ 1 ∷ m.tag ∷ m.a ∷ m.b ∷ m.row ∷ [] → ShowsMessage m line

-- an operation gives a message exactly where its line shows it, from one channel or another
pub record SomeShows (s : Logged) (o : Operation) (m : Message) : Type 0 where
  pub number : ℕ
  pub is : all_given s.world number (calls_of o s.tables) ≡ m ∷ []

pub record LinesGive (s : Logged) (o : Operation) (m : Message) : Type 0 where
  pub gives : (n : ℕ) → all_given s.world n (calls_of o s.tables) ≡ m ∷ [] → ShowsMessage m (line_in s o)
  pub shows : ShowsMessage m (line_in s o) → SomeShows s o m

abbrev pub GivesShown : Type 0
GivesShown = (s : Logged) → Follows s → (o : Operation) (m : Message) → LinesGive s o m

-- ---- a waiter
-- the turn of who waits on mailbox k when the row that a record names is let go
abbrev pub row_turn : Tables → List ℕ → ℕ → ℕ
row_turn t bytes k = turn_of t.channels k [] (drain_of t.rows (byte_at bytes 3)).slots

-- the line names task x, who waited on mailbox k, as `1 slot epoch`: a send and a revocation in one place, a release, a spawn and a leave
-- at the place of its turn among four
pub data NamesTask (t : Tables) (bytes : List ℕ) (k : ℕ) (x : TaskId) (line : List ℕ) : Type 0 where
  send_line : line ≡ 2 ∷ no.none ∷ 1 ∷ x.slot ∷ x.epoch ∷ [] → NamesTask t bytes k x line
  revoke_line : line ≡ 6 ∷ no.none ∷ 1 ∷ x.slot ∷ x.epoch ∷ [] → NamesTask t bytes k x line
  release_line :
      (ws : List Waiter) → line ≡ 8 ∷ no.none ∷ four_waiter_values ws →
      get_or ws (turn_of t.channels k [] (list_slots bytes 3)) nobody ≡ waiting x → NamesTask t bytes k x line
  spawn_line :
      (ws : List Waiter) → line ≡ 24 ∷ no.none ∷ four_waiter_values ws →
      get_or ws (row_turn t bytes k) nobody ≡ waiting x → NamesTask t bytes k x line
  leave_line :
      (ws : List Waiter) → line ≡ 25 ∷ no.none ∷ four_waiter_values ws →
      get_or ws (row_turn t bytes k) nobody ≡ waiting x → NamesTask t bytes k x line

-- the record is a clearing of task x, which shows how many it cleared
pub record ClearsTask (bytes : List ℕ) (x : TaskId) (line : List ℕ) : Type 0 where
  pub task : task_at bytes 3 ≡ x
  pub count : ℕ
  pub shows : line ≡ 10 ∷ no.none ∷ count ∷ []
