-- Demand 3's second sentence in a log: "A message accepted behind q others is given out unchanged, once, by the (q+1)-th call after it that
-- gives a message from that channel, unless the channel is revoked first." The message is one of a send whose line shows 0: its three parts,
-- and the row that is the record's last operand (request No. 10). The calls after it are those of the operations that follow, up to the
-- next accepted `new`; and the line of the operation that gives it shows all four.
use Rattle.std.specs.Prelude.{◌≡◌, true, List, [], ◌∷◌, ◌++◌, ℕ, length}
use Rattle.laws.specs.Refusals as no
use Rattle.ipc_rules.specs.State.{stamped}
use Rattle.ipc_rules.specs.Views.{queue_of}
use Rattle.ipc_rules.specs.declared.state.Message.{Message}
use Rattle.logread.specs.Little.{byte_at}
use Rattle.operations.specs.Operands.{id_at, payload_at}
use Rattle.history.specs.Traffic.{all_accepted, all_given, Spares}
use Rattle.history.specs.Messages.{AcceptedBehind}
use Rattle.history.specs.Operations.{Operation, done_by, Logged, operate, operated, beginning, lasting, calls_over}
use Rattle.history.specs.Lines.{line_in, ShowsMessage}

-- 2, send
abbrev pub sending : List ℕ → Operation
sending log = record { number = 2; bytes = log }

-- the message that it makes, if it is accepted
abbrev pub sent_by : List ℕ → Message
sent_by log = stamped (payload_at log 7) (byte_at log 27)

-- ---- what operations put into channel n, what they give from it, and that none revokes it
abbrev pub put_by : Logged → ℕ → List Operation → List Message
put_by s n os = all_accepted s.world n (calls_over s os)

abbrev pub given_by : Logged → ℕ → List Operation → List Message
given_by s n os = all_given s.world n (calls_over s os)

abbrev pub SparedBy : Logged → ℕ → List Operation → Type 0
SparedBy s n os = Spares s.world n (calls_over s os)

-- ---- the sentence
-- s is the log before the message m came, and v with it; after the operations `between` comes o
pub record ShownOnce (s v : Logged) (n k : ℕ) (m : Message) (between : List Operation) (o : Operation) : Type 0 where
  -- the operations before o gave the others, those that waited as m came
  pub earlier : given_by v n between ≡ queue_of s.world.table k
  -- the line of o shows m
  pub now : ShowsMessage m (line_in (operated v between) o)
  -- what any operations after o give, and then what waits, was all accepted after m
  pub later : let u = operate (operated v between) o in (rest : List Operation) → lasting rest ≡ true → SparedBy u n rest →
      given_by u n rest ++ queue_of (operated u rest).world.table k ≡ put_by v n between ++ put_by u n rest

-- the message is accepted on a channel, behind so many others; and the first operation after it that gives a message of that channel when
-- so many were given shows this one, and no other does
pub record GivenInLog (s : Logged) (log : List ℕ) : Type 0 where
  pub number : ℕ
  pub box : ℕ
  pub ahead : ℕ
  pub accepted : AcceptedBehind s.world number box ahead (id_at log 3) (payload_at log 7) (byte_at log 27)
  pub once :
      (between : List Operation) → lasting between ≡ true → let v = operate s (sending log) in SparedBy v number between → length (given_by v number between) ≡ ahead →
      (o : Operation) (x : Message) → given_by (operated v between) number (o ∷ []) ≡ x ∷ [] → ShownOnce s v number box (sent_by log) between o

abbrev pub LogMessagesGiven : Type 0
LogMessagesGiven =
    (before : List Operation) → let s = operated beginning before in
    (log : List ℕ) → (done_by (sending log) s.tables).number ≡ no.none → GivenInLog s log
