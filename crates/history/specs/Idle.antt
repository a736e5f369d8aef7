-- Document 01, "How much a contract has to say": the idle programs to try on it, and what each of them fails.
--
--   "refusing everything, or one constant reply"                 `FreshCreates`: "a fresh table with m 1, e 2 creates, and ids differ"
--   "changing nothing, or serving the first call and             `MessagesCome`: "later messages come out"; `WaitersNamed`,
--   posing later"                                                `HeldWaitersNamed`: "later waiters are named"; for every channel of a
--                                                                run, however late it is made, and however many messages and tasks
--   "inventing refusal, clearing or ended-entry counts"          `CountsTold` in a run; what a clearing and an ending count, their rules
--                                                                count over the table before
use Rattle.std.specs.Prelude.{◌≡◌, Bool, false, List, [], ◌∷◌, ℕ, ◌<◌, None, Ok, Some}
use Rattle.cap.specs.Slot.{holding}
use Rattle.cap.specs.Word.{word_of}
use Rattle.ipc_rules.specs.State.{nobody, waiting, stamped, sizes_of}
use Rattle.ipc_rules.specs.declared.state.Channel.{Channel}
use Rattle.ipc_rules.specs.declared.state.Message.{Message}
use Rattle.ipc_rules.specs.declared.state.Payload.{Payload}
use Rattle.ipc_rules.specs.declared.state.TaskId.{TaskId}
use Rattle.history.specs.Calls.{Call, create, send, receive, park, register, Answer, sent, received, parked, registered}
use Rattle.history.specs.World.{World, step, answers, start, Reached}
use Rattle.history.specs.Ids.{Makes}

-- ---- creation
-- a fresh table with m 1, e 2 and any depth makes channel 1, and its two ids differ
pub record CreatesTwo (d : ℕ) (ephemeral : Bool) : Type 0 where
  pub ids : Channel
  pub makes : Makes (start (sizes_of 1 2 d)) ephemeral 1 ids
  pub differ : ids.send ≡ ids.recv → ⊥

abbrev pub FreshCreates : Type 0
FreshCreates = (d : ℕ) (ephemeral : Bool) → CreatesTwo d ephemeral

-- ---- messages
-- what is handed in, and the row that writes it, one of the 54
pub record Sentence : Type 0 where
  pub parts : Payload
  pub row : ℕ
  pub sender : row < 54

-- as it comes out
abbrev pub written : Sentence → Message
written x = stamped x.parts x.row

-- each is sent and received, one after another
unfoldable pub exchange : Channel → List Sentence → List Call
exchange ids [] = []
exchange ids (x ∷ xs) = send ids.send x.parts x.row ∷ receive ids.recv ∷ exchange ids xs

-- each comes out
unfoldable pub exchanged : List Sentence → List Answer
exchanged [] = []
exchanged (x ∷ xs) = sent (Ok nobody) ∷ received (Ok (written x)) ∷ exchanged xs

abbrev pub MessagesCome : Type 0
MessagesCome =
    (w : World) → Reached w → (b : Bool) (n : ℕ) (ids : Channel) → Makes w b n ids →
    (xs : List Sentence) → answers (step w (create b)) (exchange ids xs) ≡ exchanged xs

-- ---- waiters
-- a task that waits, and the sentence that it waits for
pub record Wait : Type 0 where
  pub task : TaskId
  pub sentence : Sentence

-- each task parks, its sentence is sent, and it parks again, one after another
unfoldable pub waits : Channel → List Wait → List Call
waits ids [] = []
waits ids (x ∷ xs) = park ids.recv x.task ∷ send ids.send x.sentence.parts x.sentence.row ∷ park ids.recv x.task ∷ waits ids xs

-- each send names the task, which is then given the sentence
unfoldable pub waited : List Wait → List Answer
waited [] = []
waited (x ∷ xs) = parked (Ok None) ∷ sent (Ok (waiting x.task)) ∷ parked (Ok (Some (written x.sentence))) ∷ waited xs

abbrev pub WaitersNamed : Type 0
WaitersNamed =
    (w : World) → Reached w → (n : ℕ) (ids : Channel) → Makes w false n ids →
    (xs : List Wait) → answers (step w (create false)) (waits ids xs) ≡ waited xs

-- an ephemeral channel needs a hold first, a plain one may have it
abbrev pub HeldWaitersNamed : Type 0
HeldWaitersNamed =
    (w : World) → Reached w → (b : Bool) (n : ℕ) (ids : Channel) → Makes w b n ids →
    (xs : List Wait) → answers (step w (create b)) (register (word_of (holding ids.send) ∷ []) ∷ waits ids xs) ≡ registered (Ok tt) ∷ waited xs
