-- Document 01, "The operation log and what replay prints": the records of a log, one after the other, each handed on from the end of the
-- one before it, until nothing is left or a step is refused.
use Rattle.std.specs.Prelude.{List, ℕ, zero, suc, ◌+◌, ◌-◌, length, drop, ltb, eqb, Ok, Result, ⊤}
use Rattle.laws.specs.Pick.{pick}
use Rattle.laws.specs.Refusals as no
use Rattle.operations.specs.declared.Tables.{Tables}
use Rattle.oplog.specs.Step.{step_number, step_of, step_out}
use Rattle.oplog.specs.declared.Ran.{Ran}
use Rattle.oplog.specs.declared.StepError.{StepError}

-- how a run ends, and the buffer that it leaves
pub record Ended : Type 0 where
  pub answer : Ran
  pub buffer : List ℕ

abbrev pub ended : Result ⊤ StepError → ℕ → ℕ → ℕ → Tables → List ℕ → Ended
ended a offset done at t out = record { answer = record { answer = a; offset = offset; done = done; at = at; tables = t }; buffer = out }

-- at most k steps over what is left of a log of `all` bytes, after `done` records
unfoldable pub run_from : ℕ → ℕ → List ℕ → ℕ → List ℕ → ℕ → Tables → Ended
run_from all zero rest done out at t = ended (Ok tt) all done at t out
run_from all (suc k) rest done out at t =
    pick (ltb 0 (length rest))
    (pick (eqb (step_number (step_of rest (done + 1) out at t).answer) no.none)
    (run_from all k (drop (step_of rest (done + 1) out at t).used rest) (done + 1) (step_out rest (done + 1) out at t)
    (step_of rest (done + 1) out at t).at (step_of rest (done + 1) out at t).tables)
    (ended (step_of rest (done + 1) out at t).answer (all - length rest) done at t (step_out rest (done + 1) out at t)))
    (ended (Ok tt) all done at t out)

-- a record takes three bytes or more, so a log has no more records than bytes
abbrev pub run_of : List ℕ → ℕ → List ℕ → Tables → Ended
run_of log before out t = run_from (length log) (length log) log before out 0 t
