-- Demand 3's first sentence in a log: "From its creation, an id of channel n opens channel n or nothing until 65,535 later creations have
-- succeeded." The ids are those that the line of a create shows; channels are numbered from the log's start, or from the last `new` that
-- was accepted, and it is so up to the next. The line of an operation with such an id shows BadCap, with the reason where it has one (`LogReasons`), or what that
-- channel's mailbox answers. A send whose row is from 54 up would show 19 and touch nothing; in a log that is read it is refused before (25, `logread`
-- `operands_ok`). The lines of operations with lists show no answer to a single id, and what their calls do with it is `Reach`.
use Rattle.std.specs.Prelude.{◌≡◌, true, List, [], ◌∷◌, ◌⊎◌, ℕ, suc, ◌+◌, ◌≤◌, ◌<◌}
use Rattle.laws.specs.Refusals as no
use Rattle.cap.specs.declared.CapId.{CapId}
use Rattle.logread.specs.Little.{byte_at}
use Rattle.operations.specs.Operands.{id_at, task_at}
use Rattle.history.specs.Calls.{Answer}
use Rattle.history.specs.Numbers.{number_of, values_of}
use Rattle.history.specs.Channels.{LivesIn}
use Rattle.history.specs.Reach.{Reach, send_at, receive_at, park_at, queued_at, revoke_at, holders_at}
use Rattle.history.specs.Ids.{OpensOnly}
use Rattle.history.specs.Operations.{Operation, Logged, operate, operated, beginning, Follows, lasting}
use Rattle.history.specs.Lines.{line_in, reason_of}

-- 1, create
abbrev pub creation : List ℕ → Operation
creation log = record { number = 1; bytes = log }

-- ---- the lines of operations with an id
-- the line of an operation on channel n or on nothing: BadCap with its reason, if it has one, or what the mailbox where n lives answers
pub data LineReaches (s : Logged) (n : ℕ) (o : Operation) (of : ℕ → Answer) : Type 0 where
  nothing : line_in s o ≡ o.number ∷ no.bad_cap ∷ reason_of o s.tables → LineReaches s n o of
  channel : (k : ℕ) → LivesIn s.world n k → line_in s o ≡ o.number ∷ number_of (of k) ∷ values_of (of k) → LineReaches s n o of

-- of each operation with the id c, by its number
pub record LinesReach (s : Logged) (n : ℕ) (c : CapId) : Type 0 where
  pub send : (log : List ℕ) → id_at log 3 ≡ c → byte_at log 27 < 54 → LineReaches s n (record { number = 2; bytes = log }) (send_at s.world.table)
  pub send_refused : (log : List ℕ) → 54 ≤ byte_at log 27 → line_in s (record { number = 2; bytes = log }) ≡ 2 ∷ no.bad_row ∷ []
  pub receive : (log : List ℕ) → id_at log 3 ≡ c → LineReaches s n (record { number = 3; bytes = log }) (receive_at s.world.table)
  pub park : (log : List ℕ) → id_at log 3 ≡ c → LineReaches s n (record { number = 4; bytes = log }) (park_at s.world.table (task_at log 7))
  pub queued : (log : List ℕ) → id_at log 3 ≡ c → LineReaches s n (record { number = 5; bytes = log }) (queued_at s.world.table)
  pub revoke : (log : List ℕ) → id_at log 3 ≡ c → LineReaches s n (record { number = 6; bytes = log }) (revoke_at s.world.table)
  pub holders : (log : List ℕ) → id_at log 3 ≡ c → LineReaches s n (record { number = 9; bytes = log }) (holders_at s.world.table)

-- ---- the sentence
-- at this place of a log the id c opens channel n or nothing
pub record KeepsId (s : Logged) (n : ℕ) (c : CapId) : Type 0 where
  pub follows : Follows s
  pub opens : OpensOnly s.world n c
  pub calls : Reach s.world n c
  pub lines : LinesReach s n c

abbrev pub LogIdsKeep : Type 0
LogIdsKeep =
    (before : List Operation) → let s = operated beginning before in
    (log : List ℕ) (x y : ℕ) → line_in s (creation log) ≡ 1 ∷ no.none ∷ x ∷ y ∷ [] →
    (later : List Operation) → lasting later ≡ true → let v = operated (operate s (creation log)) later in
    v.world.made < suc s.world.made + 65535 → (c : CapId) → (c.raw ≡ x) ⊎ (c.raw ≡ y) → KeepsId v (suc s.world.made) c
