-- A job script answered by way of a supply of buffers: the first call is lent the first of them, and each call after it the next.
use Rattle.std.specs.Prelude.{◌≡◌, List, ◌++◌, ℕ, suc, ◌≤◌, Err, Ok}
use Rattle.jobscript.specs.declared.StepError.TheVariants.{NoRoom}
use Rattle.jobtext.specs.Text.{start_place, jobs_text}
use Rattle.jobtext.specs.Answer.{answer_of}
use Rattle.jobtext.specs.declared.Place.{Place}

-- what is printed from a place on into buffers of the supply's sizes, from buffer i on: the parts one after the other, each but the last ended
-- by want of room
pub data PrintsInto (script : List ℕ) (supply : ℕ → ℕ) : ℕ → Place → List ℕ → Type 0 where
  last : {i : ℕ} {p : Place} → (answer_of script (supply i) p).answer ≡ Ok tt → PrintsInto script supply i p (answer_of script (supply i) p).text
  next : {i : ℕ} {p : Place} {text : List ℕ} → (answer_of script (supply i) p).answer ≡ Err NoRoom →
      PrintsInto script supply (suc i) (answer_of script (supply i) p).place text → PrintsInto script supply i p ((answer_of script (supply i) p).text ++ text)

-- every buffer of a supply has 315 bytes or more, room for any line
abbrev pub Roomy : (ℕ → ℕ) → Type 0
Roomy supply = (i : ℕ) → 315 ≤ supply i

-- into every such supply the answering comes to its end, and what it then has printed is the script's text
abbrev pub AnswersEnd : Type 0
AnswersEnd = (script : List ℕ) (supply : ℕ → ℕ) → Roomy supply → PrintsInto script supply 0 start_place (jobs_text script)
