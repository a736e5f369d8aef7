-- Document 01, "The operation log and what replay prints": the whole text that a log comes to, the line of each record and then the last
-- line, `end` and the number of records, or `bad`, the record's offset and the fault's number. No buffer is in it.
use Rattle.std.specs.Prelude.{List, [], ◌++◌, ℕ, zero, suc, ◌+◌, length, drop, ltb, eqb, Ok, Result, ⊤}
use Rattle.laws.specs.Pick.{pick}
use Rattle.laws.specs.Refusals as no
use Rattle.line.specs.Line.{end_of, bad_of}
use Rattle.logread.specs.Read.{read_of}
use Rattle.operations.specs.Apply.{apply_of}
use Rattle.operations.specs.Channels.{all_fresh}
use Rattle.operations.specs.declared.Tables.{Tables}
use Rattle.oplog.specs.Step.{step_number, reading, text_of}
use Rattle.oplog.specs.declared.replay.Place.{Place}
use Rattle.oplog.specs.declared.StepError.{StepError}

-- what one record comes to: taken, with its length, its line and the tables afterwards, or its fault
pub record Said : Type 0 where
  pub answer : Result ⊤ StepError
  pub used : ℕ
  pub text : List ℕ
  pub tables : Tables

abbrev pub fault : Tables → Result ⊤ StepError → Said
fault t a = record { answer = a; used = 0; text = []; tables = t }

unfoldable pub said_of : List ℕ → ℕ → Tables → Said
said_of log number t =
    reading (read_of log) (fault t) (λ op len.
    record { answer = Ok tt; used = len; text = text_of number op (apply_of op log t); tables = (apply_of op log t).tables })

-- the text of what is left of a log from an offset on, after `done` records; k records at most
unfoldable pub text_from : ℕ → List ℕ → ℕ → ℕ → Tables → List ℕ
text_from zero rest offset done t = end_of done
text_from (suc k) rest offset done t =
    pick (ltb 0 (length rest))
    (pick (eqb (step_number (said_of rest (done + 1) t).answer) no.none)
    ((said_of rest (done + 1) t).text ++ text_from k (drop (said_of rest (done + 1) t).used rest) (offset + (said_of rest (done + 1) t).used) (done + 1) (said_of rest (done + 1) t).tables)
    (bad_of offset (step_number (said_of rest (done + 1) t).answer)))
    (end_of done)

-- the longest log
abbrev pub most : ℕ
most = 65536

-- what is left to print at a place of a log; a record takes three bytes or more, so a log has no more records than bytes
unfoldable pub text_at : List ℕ → Place → List ℕ
text_at log p = pick (ltb most (length log)) (bad_of most no.too_long) (text_from (length log) (drop p.offset log) p.offset p.done p.tables)

-- replay starts with sizes 32, 64, 8
abbrev pub start_of : Place
start_of = record { offset = 0; done = 0; tables = all_fresh 32 64 8 }

-- what replay prints of a log
abbrev pub replay_text : List ℕ → List ℕ
replay_text log = text_at log start_of
