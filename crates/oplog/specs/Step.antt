-- Document 01, "The operation log and what replay prints": a step reads one record and writes one line. Its faults come in the order
-- Short, BadMark, Short, BadOp, Short, BadOperand, NoRoom; a refused step hands on the log unmoved, writes nothing and keeps the tables.
use Rattle.std.specs.Prelude.{List, [], ℕ, Err, Ok, Result, ⊤}
use Rattle.laws.specs.Refusals as no
use Rattle.shown.specs.Shown.{of_either}
use Rattle.line.specs.Line.{line_of}
use Rattle.line.specs.Put.{written, put_of}
use Rattle.logread.specs.Read.{read_of}
use Rattle.logread.specs.declared.ReadError.TheVariants as read
use Rattle.operations.specs.Done.{Done}
use Rattle.operations.specs.Apply.{apply_of}
use Rattle.operations.specs.declared.Tables.{Tables}
use Rattle.oplog.specs.declared.StepError.TheVariants.{Short, BadMark, BadOp, BadOperand, NoRoom, BadTable}
use Rattle.oplog.specs.declared.Stepped.{Stepped}
use Rattle.oplog.specs.declared.StepError.{StepError}
use Rattle.line.specs.declared.RoomError.{RoomError}
use Rattle.logread.specs.declared.Record.{Record}
use Rattle.logread.specs.declared.ReadError.{ReadError}

abbrev pub step_error_number : StepError → ℕ
step_error_number Short = no.short
step_error_number BadMark = no.bad_mark
step_error_number BadOp = no.bad_op
step_error_number BadOperand = no.bad_operand
step_error_number NoRoom = no.no_room
step_error_number BadTable = no.bad_table

abbrev pub step_number : Result ⊤ StepError → ℕ
step_number = of_either (λ _. no.none) step_error_number

-- a step's answer shows no values of its own: those of a record stand in its line
abbrev pub step_values : Result ⊤ StepError → List ℕ
step_values = of_either (λ _. []) (λ _. [])

-- the fault of a record is that of the step
abbrev pub refused_read : ReadError → StepError
refused_read read.Short = Short
refused_read read.BadMark = BadMark
refused_read read.BadOp = BadOp
refused_read read.BadOperand = BadOperand

-- what follows from reading a record: its fault, or its operation and its length
unfoldable pub reading : {A : Type 0} → Result Record ReadError → (Result ⊤ StepError → A) → (ℕ → ℕ → A) → A
reading (Err e) f g = f (Err (refused_read e))
reading (Ok r) f g = g r.op r.len

-- what follows from writing a line: that there was no room, or the place past it
unfoldable pub writing : {A : Type 0} → Result ℕ RoomError → A → (ℕ → A) → A
writing (Err e) a g = a
writing (Ok next) a g = g next

-- the line of a record
abbrev pub text_of : ℕ → ℕ → Done → List ℕ
text_of number op d = line_of number op d.number d.values

abbrev pub refused_step : ℕ → Tables → Result ⊤ StepError → Stepped
refused_step at t a = record { answer = a; used = 0; at = at; tables = t }

-- the step's answer and the tables afterwards
unfoldable pub step_of : List ℕ → ℕ → List ℕ → ℕ → Tables → Stepped
step_of log number out at t =
    reading (read_of log) (refused_step at t) (λ op len.
    writing (put_of out at (text_of number op (apply_of op log t))) (refused_step at t (Err NoRoom)) (λ next.
    record { answer = Ok tt; used = len; at = next; tables = (apply_of op log t).tables }))

-- the whole buffer afterwards
unfoldable pub step_out : List ℕ → ℕ → List ℕ → ℕ → Tables → List ℕ
step_out log number out at t =
    reading (read_of log) (λ _. out) (λ op len. written out at (text_of number op (apply_of op log t)))
