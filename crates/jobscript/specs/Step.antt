-- The job script: a step reads one record and does its operation. Its faults come in the order Short, BadMark, Short, BadOp, Short; a refused
-- step reads nothing and keeps the desk.
use Rattle.std.specs.Prelude.{List, [], ℕ, Err, Ok, Result, ⊤}
use Rattle.laws.specs.Refusals as no
use Rattle.shown.specs.Shown.{of_either, shown}
use Rattle.logread.specs.declared.ReadError.TheVariants as read
use Rattle.dispatcher_rules.specs.Border.{guarded_by}
use Rattle.dispatcher_rules.specs.declared.state.Desk.{Desk}
use Rattle.jobscript.specs.Read.{job_read_of}
use Rattle.jobscript.specs.Done.{Done}
use Rattle.jobscript.specs.Operations.{apply_of}
use Rattle.jobscript.specs.declared.StepError.TheVariants.{Short, BadMark, BadOp, NoRoom, BadTable}
use Rattle.jobscript.specs.declared.Stepped.{Stepped}
use Rattle.jobscript.specs.declared.StepError.{StepError}
use Rattle.logread.specs.declared.Record.{Record}
use Rattle.logread.specs.declared.ReadError.{ReadError}

abbrev pub step_error_number : StepError → ℕ
step_error_number Short = no.short
step_error_number BadMark = no.bad_mark
step_error_number BadOp = no.bad_op
step_error_number NoRoom = no.no_room
step_error_number BadTable = no.bad_table

abbrev pub step_number : Result ⊤ StepError → ℕ
step_number = of_either (λ _. no.none) step_error_number

-- the fault of a record is that of the step; a script has no ill-formed operands, and would refuse them as it refuses an operation
abbrev pub refused_read : ReadError → StepError
refused_read read.Short = Short
refused_read read.BadMark = BadMark
refused_read read.BadOp = BadOp
refused_read read.BadOperand = BadOp

-- what follows from reading a record: its fault, or its operation and its length
unfoldable pub reading : {A : Type 0} → Result Record ReadError → (Result ⊤ StepError → A) → (ℕ → ℕ → A) → A
reading (Err e) f g = f (Err (refused_read e))
reading (Ok r) f g = g r.op r.len

abbrev pub refused_step : Desk → Result ⊤ StepError → Stepped
refused_step d a = record { answer = a; used = 0; op = 0; shown = shown (step_number a) []; desk = d }

-- a record that was taken: its operation, its whole length, and what the operation came to
abbrev pub took_step : ℕ → ℕ → Done → Stepped
took_step op len r = record { answer = Ok tt; used = len; op = op; shown = shown r.number r.values; desk = r.desk }

unfoldable pub step_of : List ℕ → Desk → Stepped
step_of script d = reading (job_read_of script) (refused_step d) (λ op len. took_step op len (apply_of op script d))

-- on any desk: one that is not ready is refused first of all (27), and kept
abbrev pub step_call : List ℕ → Desk → Stepped
step_call script d = guarded_by d.dispatcher d.channels (refused_step d (Err BadTable)) (step_of script d)
