-- A replay into a supply of buffers: the first call is lent the first of them, and each call after it the next.
use Rattle.std.specs.Prelude.{◌≡◌, List, ◌++◌, ℕ, suc, ◌≤◌, length, Err, Ok}
use Rattle.oplog.specs.Text.{text_at, start_of, replay_text}
use Rattle.oplog.specs.Replay.{replay_of, Placed, part_of}
use Rattle.oplog.specs.declared.StepError.TheVariants.{NoRoom}
use Rattle.oplog.specs.declared.replay.Place.{Place}

-- what is printed from a place on into buffer i and those after it: the parts one after the other, each but the last ended by want of room
pub data PrintsInto (log : List ℕ) (supply : ℕ → List ℕ) : ℕ → Place → List ℕ → Type 0 where
  last : {i : ℕ} {p : Place} → (replay_of log (supply i) p).part.answer ≡ Ok tt → PrintsInto log supply i p (part_of (replay_of log (supply i) p))
  next : {i : ℕ} {p : Place} {text : List ℕ} → (replay_of log (supply i) p).part.answer ≡ Err NoRoom →
      PrintsInto log supply (suc i) (replay_of log (supply i) p).part.place text → PrintsInto log supply i p (part_of (replay_of log (supply i) p) ++ text)

-- every buffer of a supply has 315 bytes or more, room for any line
abbrev pub Roomy : (ℕ → List ℕ) → Type 0
Roomy supply = (i : ℕ) → 315 ≤ length (supply i)

-- into every such supply a replay comes to its end, from each place that fits the log, and what it then has printed is all that was left
abbrev pub PartsEnd : Type 0
PartsEnd = (log : List ℕ) (supply : ℕ → List ℕ) → Roomy supply → (p : Place) → Placed log p → PrintsInto log supply 0 p (text_at log p)

-- and from the start it is the log's text
abbrev pub ReplaysEnd : Type 0
ReplaysEnd = (log : List ℕ) (supply : ℕ → List ℕ) → Roomy supply → PrintsInto log supply 0 start_of (replay_text log)
