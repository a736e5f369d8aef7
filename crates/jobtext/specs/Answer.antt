-- The job script answered over lent buffers: each call goes on from a place of the script and fills a buffer with the next part of the text.
use Rattle.std.specs.Prelude.{◌≡◌, Bool, ◌&&◌, List, [], ◌++◌, ℕ, zero, suc, ◌+◌, length, drop, leb, ltb, eqb, Err, Ok, Result, ⊤}
use Rattle.laws.specs.Pick.{pick}
use Rattle.laws.specs.Refusals as no
use Rattle.dispatcher_rules.specs.Border.{ready_test}
use Rattle.dispatcher_rules.specs.declared.state.Desk.{Desk}
use Rattle.jobscript.specs.Step.{step_number}
use Rattle.jobtext.specs.Text.{Said, said_at, place_after, last_line, most, start_place, jobs_text}
use Rattle.jobscript.specs.declared.StepError.TheVariants.{NoRoom, BadTable}
use Rattle.jobtext.specs.declared.Place.{Place}
use Rattle.jobtext.specs.declared.Part.{Part}
use Rattle.jobtext.specs.declared.inner.Told.{Told}
use Rattle.jobscript.specs.declared.StepError.{StepError}

-- ---- one record and its line, from place `at` of a buffer of `size` bytes on
abbrev pub told : Result ⊤ StepError → ℕ → ℕ → Desk → Told
told a used at d = record { answer = a; used = used; at = at; desk = d }

-- where the line has no room the record is not taken
unfoldable pub told_of : ℕ → ℕ → Desk → Said → Told
told_of size at d s =
    pick (eqb (step_number s.answer) no.none)
    (pick (leb (at + length s.text) size) (told (Ok tt) s.used (at + length s.text) s.desk) (told (Err NoRoom) 0 at d))
    (told s.answer 0 at d)

-- ---- a part of the text, and the place where it leaves off: `Took` says that it is the last, `NoRoom` that the next line has no room after it
pub record Spoken : Type 0 where
  pub text : List ℕ
  pub answer : Result ⊤ StepError
  pub place : Place

abbrev pub spoken : List ℕ → Result ⊤ StepError → Place → Spoken
spoken t a p = record { text = t; answer = a; place = p }

-- with a text before it
abbrev pub after_text : List ℕ → Spoken → Spoken
after_text t s = spoken (t ++ s.text) s.answer s.place

-- the same as the code has it, where the part stands from place `at` of the buffer on
abbrev pub part_at : ℕ → Spoken → Part
part_at at s = record { answer = s.answer; at = at + length s.text; place = s.place }

-- the last line, or that it has no room
unfoldable pub last_in : ℕ → ℕ → ℕ → ℕ → Place → Spoken
last_in size at number offset p =
    pick (leb (at + length (last_line number offset p.done)) size)
    (spoken (last_line number offset p.done) (Ok tt) p)
    (spoken [] (Err NoRoom) p)

-- at most k records of what is left of a script, as far as their lines have room, and then the last line
unfoldable pub part_from : ℕ → ℕ → ℕ → List ℕ → Place → Spoken
part_from zero size at rest p = last_in size at no.none p.offset p
part_from (suc k) size at rest p =
    pick (ltb 0 (length rest))
    (pick (eqb (step_number (said_at rest p).answer) no.none)
    (pick (leb (at + length (said_at rest p).text) size)
    (after_text (said_at rest p).text (part_from k size (at + length (said_at rest p).text) (drop (said_at rest p).used rest) (place_after p (said_at rest p))))
    (spoken [] (Err NoRoom) p))
    (last_in size at (step_number (said_at rest p).answer) p.offset p))
    (last_in size at no.none p.offset p)

-- a place fits a script: its offset is inside it, it has no more records than bytes before it, and its desk is ready
abbrev pub place_fits : List ℕ → Place → Bool
place_fits script p = (leb p.offset (length script) && leb p.done p.offset) && ready_test p.desk.dispatcher p.desk.channels

-- a place that does not fit the script is refused with 27, first of all; of a script over 65,536 bytes (28) there is one line
unfoldable pub answer_of : List ℕ → ℕ → Place → Spoken
answer_of script size p =
    pick (place_fits script p)
    (pick (ltb most (length script)) (last_in size 0 no.too_long most p)
    (part_from (length (drop p.offset script)) size 0 (drop p.offset script) p))
    (spoken [] (Err BadTable) p)

-- ---- a whole script
-- what is printed from a place on, by way of buffers of whatever sizes: the parts one after the other, each but the last ended by want of room
pub data Prints (script : List ℕ) : Place → List ℕ → Type 0 where
  last : {p : Place} (size : ℕ) → (answer_of script size p).answer ≡ Ok tt → Prints script p (answer_of script size p).text
  next : {p : Place} {text : List ℕ} (size : ℕ) → (answer_of script size p).answer ≡ Err NoRoom → Prints script (answer_of script size p).place text →
      Prints script p ((answer_of script size p).text ++ text)

-- from the start on that is the script's text, whatever the buffers
abbrev pub AnswersPrint : Type 0
AnswersPrint = (script text : List ℕ) → Prints script start_place text → text ≡ jobs_text script
