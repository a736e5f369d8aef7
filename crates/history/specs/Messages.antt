-- Demand 3: "A message accepted behind q others is given out unchanged, once, by the (q+1)-th call after it that gives a message from
-- that channel, unless the channel is revoked first."
--
--   "A message accepted"                     `accepted w n (send c p row) ≡ stamped p row ∷ []`: in the world w, the three parts p are handed in
--                                            by an id c that opens channel n, the call names the sending row, and the answer is Sent; the
--                                            message is p with that row as its stamp (request No. 10)
--   "behind q others"                        `length (queue_of w.table k) ≡ q`: as the send comes, q messages wait in mailbox k, where n lives;
--                                            they are those accepted since the creation of channel n and not given yet (`BehindCounted`)
--   "call after it"                          calls from the world `step w (send c p row)` on, whatever they are and whatever they answer
--   "that gives a message from that channel" `given v n d ≡ x ∷ []`: in the world v, the call d is a try to receive or a park by an id that
--                                            opens channel n, and x is the message in its answer; every other call gives `[]`, nothing
--   "the (q+1)-th"                           `length (all_given v n before) ≡ q`: the calls `before`, those between the send and d, gave q; a call
--                                            gives one or none (`OneOrNone`), and what a run gives, its calls give (`EachHasItsCall`)
--   "is given out unchanged"                 x ≡ stamped p row, the whole record, and so "includes the stamp" (request No. 10): what comes out is
--                                            the three parts that were handed in and the row that the accepted send named. Stamps says
--                                            the same from the other end, of what is given
--   "once"                                   the calls before d gave the q others, and what calls after d give was accepted after it: `Once`
--   "unless the channel is revoked first"    `Spares v n before`: no call before d revokes n. Until d comes, it waits (`WaitsItsTurn`); from a
--                                            revocation on nothing is given (`NothingMore`)
use Rattle.std.specs.Prelude.{◌≡◌, Bool, true, List, [], ◌∷◌, ◌++◌, ℕ, ◌+◌, ◌-◌, ◌≤◌, ◌<◌, get_or, length, Ok, Some}
use Rattle.cap.specs.Rights.{send_right, receive_right}
use Rattle.cap.specs.declared.CapId.{CapId}
use Rattle.ipc_rules.specs.State.{fresh_message, stamped}
use Rattle.ipc_rules.specs.Send.{send_of}
use Rattle.ipc_rules.specs.Receive.{recv_of, park_of}
use Rattle.ipc_rules.specs.Views.{queue_of}
use Rattle.ipc_rules.specs.declared.state.Channel.{Channel}
use Rattle.ipc_rules.specs.declared.state.Message.{Message}
use Rattle.ipc_rules.specs.declared.state.Payload.{Payload}
use Rattle.ipc_rules.specs.declared.state.TaskId.{TaskId}
use Rattle.ipc_rules.specs.declared.state.Waiter.{Waiter}
use Rattle.history.specs.Calls.{Call, create, send, receive, park}
use Rattle.history.specs.World.{World, step, run, Reached}
use Rattle.history.specs.Channels.{LivesIn, on}
use Rattle.history.specs.Ids.{Makes}
use Rattle.history.specs.Traffic.{accepted, given, revokes, all_accepted, all_given, Spares}

-- ---- the sentence
-- what p and the row make is accepted on channel n, which lives in mailbox k, behind q others
pub record AcceptedBehind (w : World) (n k q : ℕ) (c : CapId) (p : Payload) (row : ℕ) : Type 0 where
  pub lives : LivesIn w n k
  pub accepts : accepted w n (send c p row) ≡ stamped p row ∷ []
  pub others : length (queue_of w.table k) ≡ q

-- v is the world in which channel n was just made; after the calls `before`, q messages of those accepted were not given yet
pub record CountedBehind (v : World) (n k q : ℕ) (before : List Call) : Type 0 where
  pub unrevoked : Spares v n before
  pub count : length (all_given v n before) + q ≡ length (all_accepted v n before)
  -- and these are the ones that wait
  pub order : all_given v n before ++ queue_of (run v before).table k ≡ all_accepted v n before

-- "behind q others", counted from the creation of channel n on
abbrev pub BehindCounted : Type 0
BehindCounted =
    (w : World) → Reached w → (b : Bool) (n : ℕ) (ids : Channel) → Makes w b n ids →
    (before : List Call) → let v = step w (create b) in
    (k q : ℕ) (c : CapId) (p : Payload) (row : ℕ) → AcceptedBehind (run v before) n k q c p row → CountedBehind v n k q before

-- v is the world with m; after the calls `before`, the call d gives x
pub record Once (w v : World) (n k : ℕ) (m : Message) (before : List Call) (d : Call) (x : Message) : Type 0 where
  -- the calls before d gave the others, those that waited as m came
  pub earlier : all_given v n before ≡ queue_of w.table k
  -- d gives m
  pub now : x ≡ m
  -- what any calls after d give, and then what waits, was all accepted after m
  pub later : let u = step (run v before) d in (rest : List Call) → Spares u n rest →
      all_given u n rest ++ queue_of (run u rest).table k ≡ all_accepted v n before ++ all_accepted u n rest

-- the (q+1)-th call after it that gives a message from channel n gives what p and the row made, and no other does
abbrev pub GivenOnce : Type 0
GivenOnce =
    (w : World) → Reached w → (n k q : ℕ) (c : CapId) (p : Payload) (row : ℕ) → AcceptedBehind w n k q c p row →
    (before : List Call) → let v = step w (send c p row) in Spares v n before → length (all_given v n before) ≡ q →
    (d : Call) (x : Message) → given (run v before) n d ≡ x ∷ [] → Once w v n k (stamped p row) before d x

-- the same of a whole run: of what its calls give from channel n, in their order and counted from 0, the q-th is what p and the row made
abbrev pub GivenInTurn : Type 0
GivenInTurn =
    (w : World) → Reached w → (n k q : ℕ) (c : CapId) (p : Payload) (row : ℕ) → AcceptedBehind w n k q c p row →
    (later : List Call) → let v = step w (send c p row) in Spares v n later →
    q < length (all_given v n later) → get_or (all_given v n later) q fresh_message ≡ stamped p row

-- ---- calls and what they give
-- a call gives one message or none
abbrev pub OneOrNone : Type 0
OneOrNone = (w : World) (n : ℕ) (c : Call) → length (given w n c) ≤ 1

-- and each message that a run gives is given by one of its calls, the q-th, counted from 0, by the call before which q were given
pub record Giving (w : World) (n q : ℕ) (cs : List Call) : Type 0 where
  pub before : List Call
  pub call : Call
  pub rest : List Call
  pub message : Message
  pub split : cs ≡ before ++ (call ∷ rest)
  pub gave : length (all_given w n before) ≡ q
  pub gives : given (run w before) n call ≡ message ∷ []

abbrev pub EachHasItsCall : Type 0
EachHasItsCall = (w : World) (n q : ℕ) (cs : List Call) → q < length (all_given w n cs) → Giving w n q cs

-- ---- order, from which all this follows
-- channel n stays where it lives; what was given and then what waits is what waited and then what was accepted
abbrev pub InOrder : Type 0
InOrder =
    (w : World) → Reached w → (n k : ℕ) → LivesIn w n k → (cs : List Call) → Spares w n cs →
    LivesIn (run w cs) n k × (all_given w n cs ++ queue_of (run w cs).table k ≡ queue_of w.table k ++ all_accepted w n cs)

-- ---- before its turn, and after a revocation
-- until its turn it waits: it stands in the queue behind those of the others that were not given yet
abbrev pub WaitsItsTurn : Type 0
WaitsItsTurn =
    (w : World) → Reached w → (n k q : ℕ) (c : CapId) (p : Payload) (row : ℕ) → AcceptedBehind w n k q c p row →
    (later : List Call) → let v = step w (send c p row) in Spares v n later →
    let gone = length (all_given v n later) in let queue = queue_of (run v later).table k in
    gone ≤ q → (q - gone < length queue) × (get_or queue (q - gone) fresh_message ≡ stamped p row)

-- after a call that revokes channel n nothing goes in and nothing comes out
abbrev pub NothingMore : Type 0
NothingMore =
    (w : World) → Reached w → (n : ℕ) (c : Call) → revokes w n c ≡ true →
    (later : List Call) → (all_accepted (step w c) n later ≡ []) × (all_given (step w c) n later ≡ [])

-- ---- messages go in and come out
-- a send that names one of the 54 rows, by an id that opens channel n, is accepted where there is room
abbrev pub GoesIn : Type 0
GoesIn =
    (w : World) → Reached w → (n k : ℕ) → LivesIn w n k → length (queue_of w.table k) < w.table.sizes.depth →
    (c : CapId) (p : Payload) (row : ℕ) → row < 54 → on w n c send_right ≡ true → AcceptedBehind w n k (length (queue_of w.table k)) c p row

-- the oldest message is given by each try to receive and each park by an id that opens channel n
abbrev pub ComesOut : Type 0
ComesOut =
    (w : World) → Reached w → (n k : ℕ) → LivesIn w n k → (m : Message) (rest : List Message) → queue_of w.table k ≡ m ∷ rest →
    (c : CapId) → on w n c receive_right ≡ true → (given w n (receive c) ≡ m ∷ []) × ((task : TaskId) → given w n (park c task) ≡ m ∷ [])

-- ---- no answer is left out
-- each send that is answered Sent names one of the 54 rows, and is accepted on a channel, behind so many others
pub record SomeAccepts (w : World) (c : CapId) (p : Payload) (row : ℕ) : Type 0 where
  pub sender : row < 54
  pub number : ℕ
  pub box : ℕ
  pub ahead : ℕ
  pub is : AcceptedBehind w number box ahead c p row

abbrev pub EachSent : Type 0
EachSent = (w : World) → Reached w → (c : CapId) (p : Payload) (row : ℕ) (x : Waiter) → (send_of w.table c p row).answer ≡ Ok x → SomeAccepts w c p row

-- each message in an answer was given from a channel
pub record SomeGives (w : World) (c : Call) (m : Message) : Type 0 where
  pub number : ℕ
  pub is : given w number c ≡ m ∷ []

abbrev pub EachReceived : Type 0
EachReceived = (w : World) → Reached w → (c : CapId) (m : Message) → (recv_of w.table c).answer ≡ Ok m → SomeGives w (receive c) m

abbrev pub EachGiven : Type 0
EachGiven = (w : World) → Reached w → (c : CapId) (task : TaskId) (m : Message) → (park_of w.table c task).answer ≡ Ok (Some m) → SomeGives w (park c task) m
