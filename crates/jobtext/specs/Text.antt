-- The job script: the whole text that a script comes to, the line of each record and then the last line, `end` and the number of records, or
-- `bad`, the record's offset and the fault's number. No buffer is in it.
use Rattle.std.specs.Prelude.{List, [], ◌++◌, ℕ, zero, suc, ◌+◌, length, drop, ltb, eqb, Ok, Result, ⊤}
use Rattle.laws.specs.Pick.{pick}
use Rattle.laws.specs.Refusals as no
use Rattle.line.specs.Line.{line_of, end_of, bad_of}
use Rattle.dispatcher_rules.specs.declared.state.Desk.{Desk}
use Rattle.jobscript.specs.Read.{job_read_of}
use Rattle.jobscript.specs.Done.{Done}
use Rattle.jobscript.specs.Operations.{start_desk, apply_of}
use Rattle.jobscript.specs.Step.{step_number, reading}
use Rattle.jobtext.specs.declared.Place.{Place}
use Rattle.jobscript.specs.declared.StepError.{StepError}

-- what one record comes to: taken, with its length, its line and the desk afterwards, or its fault
pub record Said : Type 0 where
  pub answer : Result ⊤ StepError
  pub used : ℕ
  pub text : List ℕ
  pub desk : Desk

abbrev pub fault : Desk → Result ⊤ StepError → Said
fault d a = record { answer = a; used = 0; text = []; desk = d }

abbrev pub saying : ℕ → ℕ → ℕ → Done → Said
saying number op len r = record { answer = Ok tt; used = len; text = line_of number op r.number r.values; desk = r.desk }

unfoldable pub said_of : List ℕ → ℕ → Desk → Said
said_of script number d = reading (job_read_of script) (fault d) (λ op len. saying number op len (apply_of op script d))

-- the record after a place, and the place after that record
abbrev pub said_at : List ℕ → Place → Said
said_at rest p = said_of rest (p.done + 1) p.desk

abbrev pub place_after : Place → Said → Place
place_after p s = record { offset = p.offset + s.used; done = p.done + 1; desk = s.desk }

-- the last line: 0 says that nothing is left of the script, another number is the fault's
unfoldable pub last_line : ℕ → ℕ → ℕ → List ℕ
last_line number offset done = pick (eqb number no.none) (end_of done) (bad_of offset number)

-- the text of what is left of a script at a place; k records at most
unfoldable pub text_from : ℕ → List ℕ → Place → List ℕ
text_from zero rest p = last_line no.none p.offset p.done
text_from (suc k) rest p =
    pick (ltb 0 (length rest))
    (pick (eqb (step_number (said_at rest p).answer) no.none)
    ((said_at rest p).text ++ text_from k (drop (said_at rest p).used rest) (place_after p (said_at rest p)))
    (last_line (step_number (said_at rest p).answer) p.offset p.done))
    (last_line no.none p.offset p.done)

-- the longest script
abbrev pub most : ℕ
most = 65536

-- what is left to print at a place of a script; a record takes three bytes or more, so that there are no more records than bytes
unfoldable pub text_at : List ℕ → Place → List ℕ
text_at script p =
    pick (ltb most (length script))
    (last_line no.too_long most p.done)
    (text_from (length (drop p.offset script)) (drop p.offset script) p)

-- before the first record
abbrev pub start_place : Place
start_place = record { offset = 0; done = 0; desk = start_desk }

-- what `jobs` prints of a script
abbrev pub jobs_text : List ℕ → List ℕ
jobs_text script = text_at script start_place
