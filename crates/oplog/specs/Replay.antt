-- A replay over lent buffers: each call goes on from a place of the log and fills a buffer with the next part of the text.
use Rattle.std.specs.Prelude.{Bool, ◌&&◌, ◌≡◌, List, ◌++◌, ℕ, ◌+◌, ◌≤◌, length, take, drop, leb, ltb, eqb, Err, Ok, Result, ⊤}
use Rattle.laws.specs.Pick.{pick}
use Rattle.laws.specs.Refusals as no
use Rattle.ipc_rules.specs.Sound.{Sound}
use Rattle.ipc_sound.specs.SoundTest.{sound_test}
use Rattle.line.specs.Line.{end_of, bad_of}
use Rattle.line.specs.Put.{written, put_of}
use Rattle.oplog.specs.Step.{step_number, writing}
use Rattle.oplog.specs.Run.{Ended, run_of}
use Rattle.oplog.specs.Text.{most}
use Rattle.oplog.specs.declared.StepError.TheVariants.{NoRoom, BadTable}
use Rattle.oplog.specs.declared.replay.Place.{Place}
use Rattle.oplog.specs.declared.replay.Part.{Part}
use Rattle.oplog.specs.declared.Ran.{Ran}
use Rattle.oplog.specs.declared.StepError.{StepError}

-- a place fits a log: its offset is inside the log, it has no more records than bytes before it, and its channel table is sound
abbrev pub place_fits : List ℕ → Place → Bool
place_fits log p = (leb p.offset (length log) && leb p.done p.offset) && sound_test p.tables.channels

-- a part of the text and the buffer that has it
pub record Filled : Type 0 where
  pub part : Part
  pub buffer : List ℕ

abbrev pub filled : Result ⊤ StepError → ℕ → Place → List ℕ → Filled
filled a at p out = record { part = record { answer = a; at = at; place = p }; buffer = out }

-- the last line: 0 says that nothing is left of the log, another number is the fault's
unfoldable pub last_line : ℕ → ℕ → ℕ → List ℕ
last_line number offset done = pick (eqb number no.none) (end_of done) (bad_of offset number)

-- that line after what stands before `at`, or left for another buffer where it has no room
unfoldable pub last_of : List ℕ → ℕ → ℕ → ℕ → Place → Filled
last_of out at number offset p =
    writing (put_of out at (last_line number offset p.done)) (filled (Err NoRoom) at p (written out at (last_line number offset p.done))) (λ next.
    filled (Ok tt) next p (written out at (last_line number offset p.done)))

-- the place where a run ended that began at offset `from`
abbrev pub log_place_of : ℕ → Ran → Place
log_place_of from r = record { offset = from + r.offset; done = r.done; tables = r.tables }

-- what follows from how a run ended: no room for the next line, or the last line
unfoldable pub ending_of : ℕ → Ended → Filled
ending_of from r =
    pick (eqb (step_number r.answer.answer) no.no_room)
    (filled (Err NoRoom) r.answer.at (log_place_of from r.answer) r.buffer)
    (last_of r.buffer r.answer.at (step_number r.answer.answer) (from + r.answer.offset) (log_place_of from r.answer))

abbrev pub ran_of : List ℕ → List ℕ → Place → Ended
ran_of log out p = run_of (drop p.offset log) p.done out p.tables

-- a place that does not fit the log is refused with 27, first of all; of a log over 65,536 bytes (28) there is one line
unfoldable pub replay_of : List ℕ → List ℕ → Place → Filled
replay_of log out p =
    pick (place_fits log p)
    (pick (ltb most (length log)) (last_of out 0 no.too_long most p)
    (ending_of p.offset (ran_of log out p)))
    (filled (Err BadTable) 0 p out)

-- ---- a whole replay
-- a place fits a log, as a proposition
pub record Placed (log : List ℕ) (p : Place) : Type 0 where
  pub inside : p.offset ≤ length log
  pub counted : p.done ≤ p.offset
  pub sound : Sound p.tables.channels

-- the part that a call puts into a buffer
abbrev pub part_of : Filled → List ℕ
part_of f = take f.part.at f.buffer

-- what is printed from a place on, whatever buffers are lent: the parts one after the other, each but the last ended by want of room
pub data Prints (log : List ℕ) : Place → List ℕ → Type 0 where
  last : {p : Place} (out : List ℕ) → (replay_of log out p).part.answer ≡ Ok tt → Prints log p (part_of (replay_of log out p))
  next : {p : Place} {text : List ℕ} (out : List ℕ) → (replay_of log out p).part.answer ≡ Err NoRoom → Prints log (replay_of log out p).part.place text →
      Prints log p (part_of (replay_of log out p) ++ text)
