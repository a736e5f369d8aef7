-- The ways of a step: each fault, and a record taken. Assumes nothing.
use Rattle.std.specs.Prelude.{Err, Ok, Result, ⊤}
use mathlib.Core.Path.{◌≡◌, refl}
use mathlib.Core.List.{List, []}
use Prim.Native.Nat.{ℕ}
use Rattle.laws.specs.Refusals as no
use Rattle.shown.specs.Shown.{shown}
use Rattle.shown.specs.declared.Shown.{Shown}
use Rattle.dispatcher_rules.specs.declared.state.Desk.{Desk}
use Rattle.jobscript.specs.Read.{job_read_of}
use Rattle.jobscript.specs.Done.{packed}
use Rattle.jobscript.specs.Operations.{apply_of}
use Rattle.jobscript.specs.Step.{step_error_number, refused_read, reading, step_of}
use Rattle.jobscript.specs.declared.Outcome.{Outcome}
use Rattle.jobscript.specs.declared.StepError.TheVariants.{Short, BadMark, BadOp}
use Rattle.jobscript.specs.declared.Stepped.{Stepped}
use Rattle.jobscript.specs.declared.StepError.{StepError}
use Rattle.logread.specs.Read.{recorded}
use Rattle.logread.specs.declared.Record.{Record}
use Rattle.logread.specs.declared.ReadError.{ReadError}

-- as the code has a refused step: s is what it shows
abbrev pub stopped : Result ⊤ StepError → Shown → Desk → Stepped
stopped a s d = record { answer = a; used = 0; op = 0; shown = s; desk = d }

-- q is what the code read
module _ (script : List ℕ) (d : Desk) {q : Result Record ReadError} (r : q ≡ job_read_of script) where
  module _ {s : Shown} where
    pub faulty : {e : ReadError} → q ≡ Err e → {x : StepError} → x ≡ refused_read e → s ≡ shown (step_error_number x) [] → stopped (Err x) s d ≡ step_of script d
    unfolding step_of reading
    faulty e b a = rw (← r, e, b, a) (rw b refl)

  -- o is what the operation came to
  pub took : (op len : ℕ) → q ≡ Ok (recorded op len) → {o : Outcome} → o ≡ packed (apply_of op script d) →
      ◌≡◌ {A = Stepped} (record { answer = Ok tt; used = len; op = op; shown = o.shown; desk = o.desk }) (step_of script d)
  unfolding step_of reading
  took op len e a = rw (← r, e, a) refl
